use mathlib.Core.Bool.{not}
use lib.Dec.{eqb}
use Rattle.plain_check.proofs.Walks.Tests.{one-few}
use native.Mathlib.Omega.{arith}
use Rattle.plain_check.proofs.Walks.Stages.{used_start, used-end, used-next, seven-all}
use Rattle.plain_check.proofs.check.counts_ok.Goals as goal

-- src/check.rt:401:5
pub loop-b-init : goal.loop-b-init
loop-b-init c = (omega arith, omega arith, used_start _ _)

-- src/check.rt:402:24
pub next-requires : goal.next-requires
next-requires c = omega arith

-- src/check.rt:402:23
pub overflow_cast-used : goal.overflow_cast-used
overflow_cast-used c = omega arith

-- src/check.rt:402:16
pub overflow_add-used : goal.overflow_add-used
overflow_add-used c = omega (arith, one-few (not (eqb c.next.result 0)))

-- src/check.rt:401:9
pub overflow_step-b : goal.overflow_step-b
overflow_step-b c = omega arith

-- src/check.rt:401:5
pub loop-b-smaller : goal.loop-b-smaller
loop-b-smaller c = omega arith

-- src/check.rt:401:5
pub loop-b-preserved : goal.loop-b-preserved
loop-b-preserved c =
    let u = used-next c.args.image.now c.loop-b.b c.args.n (omega arith) _ c.next.ensures.0 in
    (omega arith, omega (arith, one-few (not (eqb c.next.result 0))), omega (arith, c.loop-b.invariant.2, u))

-- src/check.rt:404:6
pub number-requires : goal.number-requires
number-requires c = omega arith

-- src/check.rt:404:36
pub number-requires-2 : goal.number-requires-2
number-requires-2 c = omega arith

-- src/check.rt:404:57
pub overflow_sub-result : goal.overflow_sub-result
overflow_sub-result c = omega arith

-- src/check.rt:396:1
pub returns : goal.returns
returns c = seven-all _ _ _ _ _ c.requires (omega (arith, c.loop-b.invariant.2, used-end c.args.image.now c.loop-b.b c.args.n (omega arith))) c.number.ensures.0 c.number-2.ensures.0
