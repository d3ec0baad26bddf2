use Rattle.layout.specs.Check.{stage2}
use Rattle.layout.proofs.check.signed.Goals as goal

pub returns : goal.returns
unfolding stage2
returns c = c.equal.ensures
