use Prim.Native.Nat.{ℕ}
use mathlib.Core.Path.{sym, ap, ◌∙◌}
use native.Mathlib.Omega.{arith}
use Rattle.layout.specs.Table.{next}
use Rattle.plain_check.specs.Plain.{one, holds}
use Rattle.plain_check.proofs.Walks.Tests.{from_first}
use Rattle.plain_check.proofs.Walks.Chains.{holds-end, holds-stop, holds-next}
use Rattle.plain_check.proofs.check.holds.Goals as goal

-- src/check.rt:76:5
pub loop-i-init : goal.loop-i-init
loop-i-init c = (c.requires, omega arith, from_first (λ (x : ℕ). holds (next c.args.image.now) c.args.b c.args.first x) _)

-- src/check.rt:78:13
pub returns-then-b-at : goal.returns-then-b-at
returns-then-b-at c = (sym (ap one c.loop-i.invariant.2 ∙ holds-stop _ _ c.loop-i.at c.args.k c.loop-i.i (omega arith) c.if-b-at.true), omega arith)

-- src/check.rt:80:9
pub next-at-requires : goal.next-at-requires
next-at-requires c = omega arith

-- src/check.rt:76:9
pub overflow_step-i : goal.overflow_step-i
overflow_step-i c = omega arith

-- src/check.rt:76:5
pub loop-i-smaller : goal.loop-i-smaller
loop-i-smaller c = omega arith

-- src/check.rt:76:5
pub loop-i-preserved : goal.loop-i-preserved
loop-i-preserved c = (c.next-at.ensures.1, omega arith, c.loop-i.invariant.2 ∙ holds-next _ _ c.loop-i.at c.args.k c.loop-i.i (omega arith) c.if-b-at.false _ c.next-at.ensures.0)

-- src/check.rt:71:1
pub returns : goal.returns
returns c = (sym (ap one c.loop-i.invariant.2 ∙ holds-end _ _ c.loop-i.at c.args.k c.loop-i.i (omega arith)), omega arith)
