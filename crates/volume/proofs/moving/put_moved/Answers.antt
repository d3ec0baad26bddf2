use Prim.Native.Nat.{◌+◌, ◌-◌, ◌*◌, ◌%◌}
use native.Mathlib.Omega.{arith}
use Rattle.layout.proofs.Laws.Bytes.{lent-part}
use Rattle.volume.proofs.Walks.Move.{length-renamed}
use Rattle.volume.proofs.moving.put_moved.Goals as goal

-- src/moving.rt:145:1
pub returns : goal.returns
returns c =
    let a = c.args in
    let p = c.requires in
    let l = length-renamed a.head.now a.name.now p.1 p.2 in
    lent-part a.image.now (512 * a.b) (512 * a.b + 512 - 512 * a.b) (128 * (a.k % 4)) _ _ c.put_renamed.ensures (omega arith) (omega arith)
