use borrow.Author.Tests.{ne_eqb}
use Rattle.script.specs.Script.{renew_at}
use Rattle.script.proofs.runner.renew_of.Goals as goal

pub returns-then-op-eq24 : goal.returns-then-op-eq24
unfolding renew_at
returns-then-op-eq24 c = rw (c.if-op-eq24.true, c.get64-time.ensures, c.get64.ensures)

pub returns-then-op-eq25 : goal.returns-then-op-eq25
unfolding renew_at
returns-then-op-eq25 c = rw (c.if-op-eq25.true, c.get64-time.ensures)

pub returns-then-op-eq26 : goal.returns-then-op-eq26
unfolding renew_at
returns-then-op-eq26 c = rw c.if-op-eq26.true

-- none of the ops above
pub returns : goal.returns
unfolding renew_at
returns c = rw (ne_eqb _ 24 c.if-op-eq24.false, ne_eqb _ 25 c.if-op-eq25.false, ne_eqb _ 26 c.if-op-eq26.false)
