use Rattle.std.proofs.Common.{◌≡◌, get_or, arith}
use Rattle.layout.proofs.Laws.Tests.{below_more}
use Rattle.layout.proofs.names.nearest.Goals as goal

pub loop-i-preserved : goal.loop-i-preserved
loop-i-preserved c =
    let a = c.args in
    below_more (λ j. get_or a.prints.now j 0 ≡ a.p → ⊥) a.from c.loop-i.i c.loop-i.invariant c.if-prints-i.false

pub returns-then-prints-i : goal.returns-then-prints-i
returns-then-prints-i c = record { low = omega arith; high = omega arith; before = c.loop-i.invariant; here = λ h. c.if-prints-i.true }

pub returns : goal.returns
returns c = record { low = omega arith; high = omega arith; before = λ j h g. c.loop-i.invariant j h (omega arith); here = λ h. absurd (omega arith) }
