use mathlib.Core.Path.{refl, sym, ◌∙◌}
use native.Mathlib.Omega.{arith}
use Rattle.plain_check.proofs.Walks.Tests.{each_more, each_none}
use Rattle.plain_check.proofs.Walks.Names.{follows_is, name-all}
use Rattle.plain_check.proofs.check.name_ok.Goals as goal

-- src/check.rt:210:33
pub overflow_add-e : goal.overflow_add-e
overflow_add-e c = omega arith

-- src/check.rt:210:21
pub byte-requires : goal.byte-requires
byte-requires c = omega arith

-- src/check.rt:210:62
pub overflow_add-e-2 : goal.overflow_add-e-2
overflow_add-e-2 c = omega arith

-- src/check.rt:210:50
pub byte-requires-2 : goal.byte-requires-2
byte-requires-2 c = omega arith

-- src/check.rt:211:14
pub overflow_step-i : goal.overflow_step-i
overflow_step-i c = omega arith

-- src/check.rt:211:22
pub overflow_add-i-end : goal.overflow_add-i-end
overflow_add-i-end c = omega arith

-- src/check.rt:211:5
pub loop-i-init : goal.loop-i-init
loop-i-init c = (omega arith, omega arith, refl, name-all _ _ c.requires.0 _ _ c.byte.ensures.0 c.byte-2.ensures.0 _ refl)

-- src/check.rt:212:23
pub byte-requires-in-loop-i : goal.byte-requires-in-loop-i
byte-requires-in-loop-i c = omega arith

-- src/check.rt:212:59
pub overflow_add-i : goal.overflow_add-i
overflow_add-i c = omega arith

-- src/check.rt:212:47
pub byte-requires-in-loop-i-2 : goal.byte-requires-in-loop-i-2
byte-requires-in-loop-i-2 c = omega arith

-- src/check.rt:213:45
pub overflow_add-i-in-loop-i : goal.overflow_add-i-in-loop-i
overflow_add-i-in-loop-i c = omega arith

-- src/check.rt:213:33
pub byte-requires-in-loop-i-3 : goal.byte-requires-in-loop-i-3
byte-requires-in-loop-i-3 c = omega arith

-- src/check.rt:211:9
pub overflow_step-i-in-loop-i : goal.overflow_step-i-in-loop-i
overflow_step-i-in-loop-i c = omega arith

-- src/check.rt:211:5
pub loop-i-smaller : goal.loop-i-smaller
loop-i-smaller c = omega arith

-- src/check.rt:211:5
pub loop-i-preserved : goal.loop-i-preserved
loop-i-preserved c = (omega arith, omega arith, c.loop-i.invariant.2, c.loop-i.invariant.3 ∙ each_more _ c.loop-i.i _ (omega arith) c.loop-i.good _ _ (follows_is c.args.image.now c.loop-i.i _ _ _ c.byte-in-loop-i.ensures.0 c.byte-in-loop-i-2.ensures.0 c.byte-in-loop-i-3.ensures.0))

-- src/check.rt:206:1
pub returns : goal.returns
returns c = each_none _ c.loop-i.i _ c.loop-i.good (omega arith) ∙ sym c.loop-i.invariant.3
