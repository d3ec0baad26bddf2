use Rattle.layout.specs.Table.{next}
use Rattle.plain_check.proofs.check.next.Goals as goal

-- src/check.rt:53:1
pub returns : goal.returns
unfolding next
returns c = c.number.ensures
