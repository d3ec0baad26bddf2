use Prim.Native.Nat.{ℕ}
use native.Mathlib.Omega.{arith}
use Rattle.layout.specs.Table.{next, ends_after}
use Rattle.plain_check.proofs.Walks.Tests.{from_first}
use Rattle.plain_check.proofs.Walks.Chains.{ends_next, ends-all}
use Rattle.plain_check.proofs.check.chain_ok.Goals as goal

-- src/check.rt:92:5
pub loop-i-init : goal.loop-i-init
loop-i-init c = (c.requires.1, omega arith, from_first (λ (x : ℕ). ends_after (next c.args.image.now) c.args.n c.args.first x) _)

-- src/check.rt:93:25
pub overflow_add-good : goal.overflow_add-good
overflow_add-good c = omega arith

-- src/check.rt:94:9
pub next-at-requires : goal.next-at-requires
next-at-requires c = omega arith

-- src/check.rt:92:9
pub overflow_step-i : goal.overflow_step-i
overflow_step-i c = omega arith

-- src/check.rt:92:5
pub loop-i-smaller : goal.loop-i-smaller
loop-i-smaller c = omega arith

-- src/check.rt:92:5
pub loop-i-preserved : goal.loop-i-preserved
loop-i-preserved c = (c.next-at.ensures.1, omega arith, ends_next _ _ _ c.loop-i.at c.args.k c.loop-i.i c.loop-i.good (omega arith) c.loop-i.invariant.2 _ c.next-at.ensures.0)

-- src/check.rt:86:1
pub returns : goal.returns
returns c = ends-all _ _ _ c.loop-i.at c.args.k c.loop-i.i c.loop-i.good (omega arith) c.loop-i.invariant.2
