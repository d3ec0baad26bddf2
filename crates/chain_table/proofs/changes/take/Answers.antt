use mathlib.Core.Path.{◌∙◌}
use Rattle.chain_table.specs.Numbers.{taken_in}
use Rattle.chain_table.proofs.changes.take.Goals as goal

pub returns : goal.returns
unfolding taken_in
returns c = c.link.ensures ∙ rw c.set.ensures
