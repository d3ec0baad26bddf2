use native.Mathlib.Omega.{arith}
use Prim.Native.Nat.{◌/◌}
use Rattle.salvage_tree.proofs.Walks.Names.{own-blocks}
use mathlib.Core.Path.{◌∙◌}
use Rattle.salvage_tree.proofs.Walks.Entries.{entry_free, entry-bad, entry-file, entry-child}
use Rattle.salvage_tree.proofs.slots.take_entry.Goals as goal

pub type_at-ty-requires : goal.type_at-ty-requires
type_at-ty-requires c = let g = c.requires.1.below (c.args.k / 4) (omega (arith, c.requires.3)) in omega (arith, g, c.requires.4, c.requires.0.room.shape)

pub returns-then-ty-eq0 : goal.returns-then-ty-eq0
returns-then-ty-eq0 c = entry_free _ _ _ _ _ _ c.requires.4 _ c.type_at-ty.ensures c.if-ty-eq0.true

pub slot_right-requires : goal.slot_right-requires
slot_right-requires c = (c.requires.0.room.shape, own-blocks _ _ c.requires.1, c.requires.2, c.requires.3, c.requires.4, λ z. c.if-ty-eq0.false (c.type_at-ty.ensures ∙ z))

pub drop_slot-requires : goal.drop_slot-requires
drop_slot-requires c = let g = c.requires.1.below (c.args.k / 4) (omega (arith, c.requires.3)) in (omega (arith, g, c.requires.4, c.requires.0.room.shape), omega (arith, g, c.requires.4, c.requires.0.sized))

pub returns-then-not-slot_right : goal.returns-then-not-slot_right
returns-then-not-slot_right c = entry-bad _ _ _ _ _ _ c.requires.4 _ c.type_at-ty.ensures c.if-ty-eq0.false _ c.slot_right.ensures c.if-not-slot_right.true _ _ c.drop_slot.ensures.bytes c.drop_slot.ensures.codes

pub take_file-requires : goal.take_file-requires
take_file-requires c = let g = c.requires.1.below (c.args.k / 4) (omega (arith, c.requires.3)) in (c.requires.0, omega (arith, g, c.requires.4))

pub returns-then-is_file : goal.returns-then-is_file
returns-then-is_file c = entry-file _ _ _ _ _ _ c.requires.4 _ c.type_at-ty.ensures c.if-ty-eq0.false _ c.slot_right.ensures c.if-not-slot_right.false _ c.is_file.ensures c.if-is_file.true _ _ _ c.take_file.ensures

pub returns : goal.returns
returns c = entry-child _ _ _ _ _ _ c.requires.4 _ c.type_at-ty.ensures c.if-ty-eq0.false _ c.slot_right.ensures c.if-not-slot_right.false _ c.is_file.ensures c.if-is_file.false
