use Rattle.std.proofs.Common.{refl, sym, ◌∙◌}
use Rattle.layout.proofs.Walks.Fingerprints.{new_name-used}
use Rattle.salvage.proofs.Walks.Slots.{right-both}
use Rattle.salvage.proofs.slots.slot_right.Goals as goal

pub name_in-requires : goal.name_in-requires
name_in-requires c =
    let p = c.requires in
    (p.0.noted, p.0.slot, record { right = sym c.slot_ok_at.ensures ∙ c.if-slot_ok_at.true; used = p.1 }, p.0.print)

pub returns-then-slot_ok_at : goal.returns-then-slot_ok_at
returns-then-slot_ok_at c =
    let p = c.requires in
    right-both _ _ _ (sym c.if-slot_ok_at.true ∙ c.slot_ok_at.ensures) (new_name-used _ _ _ _ p.0.slot _ refl p.1 _ c.name_in.ensures)
