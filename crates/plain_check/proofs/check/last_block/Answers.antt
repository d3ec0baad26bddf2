use mathlib.Core.Path.{refl}
use native.Mathlib.Omega.{arith}
use Rattle.plain_check.proofs.Walks.Chains.{last_end, last-next}
use Rattle.plain_check.proofs.check.last_block.Goals as goal

-- src/check.rt:64:5
pub loop-i-init : goal.loop-i-init
loop-i-init c = (c.requires.0, omega arith, c.requires.1, refl)

-- src/check.rt:65:9
pub next-at-requires : goal.next-at-requires
next-at-requires c = omega arith

-- src/check.rt:64:9
pub overflow_step-i : goal.overflow_step-i
overflow_step-i c = omega arith

-- src/check.rt:64:5
pub loop-i-smaller : goal.loop-i-smaller
loop-i-smaller c = omega arith

-- src/check.rt:64:5
pub loop-i-preserved : goal.loop-i-preserved
loop-i-preserved c = (c.next-at.ensures.1, omega arith, omega arith, last-next _ _ c.args.d _ c.loop-i.i c.loop-i.invariant.1 c.loop-i.invariant.3 _ c.next-at.ensures.0)

-- src/check.rt:59:1
pub returns : goal.returns
returns c = (last_end _ _ c.args.d _ c.loop-i.i c.requires.1 (omega arith) c.loop-i.invariant.2 c.loop-i.invariant.3, c.loop-i.invariant.0)
