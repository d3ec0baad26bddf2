use Prim.Native.Nat.{◌%◌}
use native.Mathlib.Omega.{arith}
use borrow.Author.Tests.{eq-eqb, ne_eqb}
use Rattle.plain_check.specs.Walks.{after}
use Rattle.plain_check.proofs.check.after.Goals as goal

-- src/check.rt:53:9
pub returns-then-e-eq384 : goal.returns-then-e-eq384
unfolding after
returns-then-e-eq384 c = (rw (eq-eqb (c.args.e % 512) 384 c.if-e-eq384.true, c.next.ensures.0), omega (arith, c.next.ensures.1), omega arith)

-- src/check.rt:48:1
pub returns : goal.returns
unfolding after
returns c = (rw (ne_eqb (c.args.e % 512) 384 c.if-e-eq384.false), omega (arith, c.if-e-eq384.false), omega arith)
