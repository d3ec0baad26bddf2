use mathlib.Core.Path.{◌∙◌}
use Rattle.layout.proofs.chains.follow_own.Goals as goal

pub returns : goal.returns
returns c = c.follow.ensures ∙ rw (c.number_at-first.ensures, c.number_at-blocks.ensures)
