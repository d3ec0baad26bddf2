use Rattle.std.proofs.Common.{length-take}
use native.Mathlib.Omega.{arith}
use mathlib.Core.Path.{refl}
use Rattle.layout.specs.Walks.Slots.{entry_at}
use Rattle.salvage_tree.proofs.Walks.Entries.{found-bad, found_none, found_some, chose-some, lent-own, lent-first}
use Rattle.salvage_tree.proofs.slots.find_blocks.Goals as goal

pub number_at-first-requires : goal.number_at-first-requires
number_at-first-requires c = (omega (arith, c.requires.0.shape, c.requires.1), omega arith)

pub number_at-said-requires : goal.number_at-said-requires
number_at-said-requires c = (omega (arith, c.requires.0.shape, c.requires.1), omega arith)

pub is_good-requires : goal.is_good-requires
is_good-requires c = (c.requires.0.table, omega (arith, c.requires.0))

pub returns-then-not-is_good-clause-found : goal.returns-then-not-is_good-clause-found
returns-then-not-is_good-clause-found c = found-bad _ _ (entry_at c.args.b c.args.k) _ _ _ c.number_at-first.ensures c.number_at-said.ensures _ c.requires.2 _ c.is_good.ensures c.if-not-is_good.true

pub number_at-requires : goal.number_at-requires
number_at-requires c = let g = c.is_good.ensures.below c.if-not-is_good.false in (omega (arith, c.requires.0.shape, g), omega arith)

pub choose-d-requires : goal.choose-d-requires
choose-d-requires c = (c.requires.0, c.requires.2)

pub slice_bounds-is_witnessed-end : goal.slice_bounds-is_witnessed-end
slice_bounds-is_witnessed-end c = omega (arith, c.choose-d.ensures.most, c.choose-d.ensures.size)

pub slice_bounds-is_witnessed-end-2 : goal.slice_bounds-is_witnessed-end-2
slice_bounds-is_witnessed-end-2 c = simp length-take (omega (arith, c.choose-d.ensures.most, c.choose-d.ensures.size))

pub is_witnessed-requires : goal.is_witnessed-requires
is_witnessed-requires c =
    let h = chose-some _ _ _ _ _ _ _ _ _ c.is_good.ensures c.if-not-is_good.false c.choose-d.ensures in
    (c.requires.0.shape, lent-own _ _ (entry_at c.args.b c.args.k) _ _ _ c.number_at-first.ensures c.number_at-said.ensures _ _ c.number_at.ensures refl _ _ c.choose-d.ensures h, c.requires.1, lent-first _ _ (entry_at c.args.b c.args.k) _ _ _ c.number_at-first.ensures c.number_at-said.ensures _ _ c.number_at.ensures refl _ _ c.choose-d.ensures h)

pub returns-then-not-is_witnessed-clause-found : goal.returns-then-not-is_witnessed-clause-found
returns-then-not-is_witnessed-clause-found c =
    let h = chose-some _ _ _ _ _ _ _ _ _ c.is_good.ensures c.if-not-is_good.false c.choose-d.ensures in
    found_none _ _ (entry_at c.args.b c.args.k) _ _ _ c.number_at-first.ensures c.number_at-said.ensures _ _ c.number_at.ensures refl _ _ c.choose-d.ensures h _ c.is_witnessed.ensures c.if-not-is_witnessed.true

pub returns-clause-found : goal.returns-clause-found
returns-clause-found c =
    let h = chose-some _ _ _ _ _ _ _ _ _ c.is_good.ensures c.if-not-is_good.false c.choose-d.ensures in
    found_some _ _ (entry_at c.args.b c.args.k) _ _ _ c.number_at-first.ensures c.number_at-said.ensures _ _ c.number_at.ensures refl _ _ c.choose-d.ensures h _ c.is_witnessed.ensures c.if-not-is_witnessed.false

pub returns-clause-some : goal.returns-clause-some
returns-clause-some c = chose-some _ _ _ _ _ _ _ _ _ c.is_good.ensures c.if-not-is_good.false c.choose-d.ensures
