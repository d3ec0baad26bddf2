use Prim.Native.Nat.{◌*◌, ◌+◌, ◌-◌, ◌%◌}
use native.Mathlib.Omega.{arith}
use Rattle.volume.proofs.Walks.Lent.{lent-file}
use Rattle.volume.proofs.file.set_file.Goals as goal

pub returns : goal.returns
returns c =
    let put-file = c.put_file in
    let a = c.args in
    lent-file a.image.now (512 * a.b) ((512 * a.b + 512) - 512 * a.b) (128 * (a.k % 4)) a.first a.size a.blocks a.time _
    put-file.ensures (omega arith) (omega arith)
