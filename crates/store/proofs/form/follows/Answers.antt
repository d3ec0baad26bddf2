use Rattle.std.proofs.Common.{arith}
use Rattle.std.proofs.lemmas.Grind.{common_steps}
use Rattle.store.specs.Walks.Forms.{follows_on}
use Rattle.store.proofs.form.follows.Goals as goal

pub returns-then-last-eq0 : goal.returns-then-last-eq0
unfolding follows_on
returns-then-last-eq0 c = grind (arith, common_steps)

pub returns-else-last-eq0 : goal.returns-else-last-eq0
unfolding follows_on
returns-else-last-eq0 c = grind (arith, common_steps)

pub returns-else-number-ne0 : goal.returns-else-number-ne0
unfolding follows_on
returns-else-number-ne0 c = grind (arith, common_steps)
