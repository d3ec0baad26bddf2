use mathlib.Core.Path.{refl, sym, ◌∙◌}
use native.Mathlib.Omega.{arith}
use Rattle.script.proofs.Walks.Scripts.{next, room-short, room-step, room-none}
use Rattle.script.proofs.items.answers_fit.Goals as goal

pub loop-at-init : goal.loop-at-init
loop-at-init c = (c.requires, refl)

pub answer_size-size-requires : goal.answer_size-size-requires
answer_size-size-requires c = (next _ _ c.loop-at-test.true c.loop-at.invariant.0).fits

pub returns-then-left-size : goal.returns-then-left-size
returns-then-left-size c =
    let loop-test = c.loop-at-test in
    let l = c.loop-at in
    sym (l.invariant.1 ∙ room-short _ _ _ loop-test.true (rw c.answer_size-size.ensures at c.if-left-size.true))

pub item_size-at-requires : goal.item_size-at-requires
item_size-at-requires c = let n = next _ _ c.loop-at-test.true c.loop-at.invariant.0 in omega arith

pub overflow_add-at : goal.overflow_add-at
overflow_add-at c =
    let loop-test = c.loop-at-test in
    let l = c.loop-at in
    let n = next _ _ loop-test.true l.invariant.0 in omega (arith, c.item_size-at.ensures)

pub loop-at-smaller : goal.loop-at-smaller
loop-at-smaller c =
    let loop-test = c.loop-at-test in
    let l = c.loop-at in
    let n = next _ _ loop-test.true l.invariant.0 in omega (arith, c.item_size-at.ensures)

pub loop-at-preserved : goal.loop-at-preserved
loop-at-preserved c =
    let answer-size = c.answer_size-size in
    let loop-test = c.loop-at-test in
    let l = c.loop-at in
    let n = next _ _ loop-test.true l.invariant.0 in
    rw c.item_size-at.ensures (
      n.rest,
      l.invariant.1 ∙ room-step _ _ _ loop-test.true (rw answer-size.ensures at c.if-left-size.false) ∙ rw
          answer-size.ensures,
    )

pub returns : goal.returns
returns c = sym (c.loop-at.invariant.1 ∙ room-none _ _ _ c.loop-at-test.false)
