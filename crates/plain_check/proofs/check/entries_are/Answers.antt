use mathlib.Core.Path.{refl, sym, ◌∙◌}
use native.Mathlib.Omega.{arith}
use Rattle.plain_check.proofs.Walks.Tests.{each-end, each-stop, each_next}
use Rattle.plain_check.proofs.Walks.Stages.{value-is, value_not}
use Rattle.plain_check.proofs.check.entries_are.Goals as goal

-- src/check.rt:361:5
pub loop-x-init : goal.loop-x-init
loop-x-init c = (omega arith, refl)

-- src/check.rt:362:12
pub next-requires : goal.next-requires
next-requires c = omega arith

-- src/check.rt:363:13
pub returns-then-next-value : goal.returns-then-next-value
returns-then-next-value c = sym (c.loop-x.invariant.1 ∙ each-stop _ c.loop-x.x _ (omega arith) (value_not _ _ _ _ c.next.ensures.0 c.if-next-value.true))

-- src/check.rt:361:9
pub overflow_step-x : goal.overflow_step-x
overflow_step-x c = omega arith

-- src/check.rt:361:5
pub loop-x-smaller : goal.loop-x-smaller
loop-x-smaller c = omega arith

-- src/check.rt:361:5
pub loop-x-preserved : goal.loop-x-preserved
loop-x-preserved c = (omega arith, c.loop-x.invariant.1 ∙ each_next _ c.loop-x.x _ (omega arith) (value-is _ _ _ _ c.next.ensures.0 c.if-next-value.false))

-- src/check.rt:357:1
pub returns : goal.returns
returns c = each-end _ c.loop-x.x _ (omega arith) ∙ sym c.loop-x.invariant.1
