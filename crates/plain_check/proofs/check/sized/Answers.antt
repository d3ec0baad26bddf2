use Rattle.layout.specs.Check.{stage1}
use Rattle.plain_check.proofs.check.sized.Goals as goal

-- src/check.rt:100:1
pub returns : goal.returns
unfolding stage1
returns c = rw c.requires
