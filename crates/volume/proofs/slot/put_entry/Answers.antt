use mathlib.Core.Path.{◌∙◌}
use Prim.Native.Nat.{◌+◌, ◌-◌, ◌≤◌}
use native.Mathlib.Omega.{arith}
use lib.ListN.{length}
use Rattle.volume.proofs.Walks.Slots.{length-entry}
use Rattle.layout.proofs.Laws.Bytes.{lent}
use Rattle.volume.proofs.slot.put_entry.Goals as goal

pub returns : goal.returns
returns c =
    let a = c.args in
    let f = a.f in
    let h : length a.name.now ≤ 80 = c.requires.1 in
    let l = length-entry f.kind f.user f.group f.permissions f.first f.size f.blocks f.time f.flags a.name.now h in
    lent a.block.now a.o (a.o + 128 - a.o) _ _ c.fill_entry.ensures (l ∙ omega arith)
