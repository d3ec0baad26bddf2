use Rattle.std.proofs.Common.{refl, sym, ◌∙◌, arith}
use Rattle.script.proofs.Walks.Scripts.{item-fits, every-step, every-bad, every-end}
use Rattle.script.proofs.items.well_formed.Goals as goal

pub loop-at-init : goal.loop-at-init
loop-at-init c = (omega arith, refl)

pub item_ok-requires : goal.item_ok-requires
item_ok-requires c = omega arith

pub returns-then-not-item_ok : goal.returns-then-not-item_ok
returns-then-not-item_ok c =
    sym (c.loop-at.invariant.1 ∙ every-bad _ _ c.loop-at-test.true (sym c.item_ok.ensures ∙ c.if-not-item_ok.true))

pub item_size-at-requires : goal.item_size-at-requires
item_size-at-requires c =
    let f = item-fits _ _ (sym c.item_ok.ensures ∙ c.if-not-item_ok.false) in
    omega arith

pub overflow_add-at : goal.overflow_add-at
overflow_add-at c =
    let f = item-fits _ _ (sym c.item_ok.ensures ∙ c.if-not-item_ok.false) in
    omega (arith, c.item_size-at.ensures)

pub loop-at-smaller : goal.loop-at-smaller
loop-at-smaller c =
    let f = item-fits _ _ (sym c.item_ok.ensures ∙ c.if-not-item_ok.false) in
    omega (arith, c.item_size-at.ensures)

pub loop-at-preserved : goal.loop-at-preserved
loop-at-preserved c =
    let ok = sym c.item_ok.ensures ∙ c.if-not-item_ok.false in
    let f = item-fits _ _ ok in
    (omega (arith, c.item_size-at.ensures), c.loop-at.invariant.1 ∙ every-step _ _ c.loop-at-test.true ok ∙ rw c.item_size-at.ensures)

pub returns : goal.returns
returns c = sym (c.loop-at.invariant.1 ∙ every-end _ _ c.loop-at-test.false)
