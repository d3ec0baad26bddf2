use Prim.Native.Nat.{◌*◌, ◌+◌, ◌-◌, ◌%◌}
use native.Mathlib.Omega.{arith}
use Rattle.volume.proofs.Walks.Lent.{lent-fields}
use Rattle.volume.proofs.file.set_attribute_fields.Goals as goal

pub returns : goal.returns
returns c =
    let a = c.args in
    lent-fields a.image.now (512 * a.b) ((512 * a.b + 512) - 512 * a.b) (128 * (a.k % 4)) a.first a.size _
    c.put_attribute_fields.ensures (omega arith) (omega arith)
