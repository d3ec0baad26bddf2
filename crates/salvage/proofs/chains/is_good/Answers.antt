use Rattle.std.proofs.Common.{rules}
use Rattle.salvage.proofs.Walks.Claims.{good-outside, good-marked}
use Rattle.salvage.proofs.chains.is_good.Goals as goal

pub returns-then-contains : goal.returns-then-contains
returns-then-contains c = good-marked _ _ _ (search rules) (search rules)

pub returns-else-contains : goal.returns-else-contains
returns-else-contains c = rw c.if-contains.false (good-outside _ _ _ (search rules))
