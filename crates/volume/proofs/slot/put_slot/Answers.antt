use Prim.Native.Nat.{◌+◌, ◌-◌, ◌*◌, ◌%◌, ◌≤◌}
use native.Mathlib.Omega.{arith}
use lib.ListN.{length}
use Rattle.volume.proofs.Walks.Slots.{length-entry}
use Rattle.layout.proofs.Laws.Bytes.{lent-part}
use Rattle.volume.proofs.slot.put_slot.Goals as goal

pub returns : goal.returns
returns c =
    let a = c.args in
    let f = a.f in
    let h : length a.name.now ≤ 80 = c.requires.1 in
    let l = length-entry f.kind f.user f.group f.permissions f.first f.size f.blocks f.time f.flags a.name.now h in
    lent-part a.image.now (512 * a.b) (512 * a.b + 512 - 512 * a.b) (128 * (a.k % 4)) _ _ c.put_entry.ensures (omega arith) (omega arith)
