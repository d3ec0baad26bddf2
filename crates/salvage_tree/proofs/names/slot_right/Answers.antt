use Rattle.std.proofs.Common.{◌≡◌, ◌/◌, List, ℕ, true, sym, ◌∙◌, subst, arith}
use Rattle.layout.specs.Directory.{good_name}
use Rattle.salvage_tree.proofs.Walks.Names.{right-name, right_new}
use Rattle.salvage_tree.proofs.names.slot_right.Goals as goal

pub slot_ok_at-requires : goal.slot_ok_at-requires
slot_ok_at-requires c = let g = c.requires.1.below (c.args.k / 4) (omega (arith, c.requires.3)) in omega (arith, g, c.requires.4, c.requires.0)

pub name_at-requires : goal.name_at-requires
name_at-requires c = let g = c.requires.1.below (c.args.k / 4) (omega (arith, c.requires.3)) in omega (arith, g, c.requires.4, c.requires.0)

pub is_new-requires : goal.is_new-requires
is_new-requires c = (c.requires.0, c.requires.1, omega (arith, c.requires.3), subst (λ (x : List ℕ). good_name x ≡ true) (sym c.name_at.ensures) (right-name _ _ (sym c.slot_ok_at.ensures ∙ c.if-slot_ok_at.true) c.requires.5))

pub returns-then-slot_ok_at : goal.returns-then-slot_ok_at
returns-then-slot_ok_at c = right_new _ _ _ _ c.requires.4 c.requires.5 _ c.slot_ok_at.ensures c.if-slot_ok_at.true _ c.name_at.ensures _ c.is_new.ensures
