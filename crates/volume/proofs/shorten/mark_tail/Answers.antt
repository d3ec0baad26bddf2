use Rattle.std.proofs.Common.{◌∙◌}
use Rattle.volume.proofs.Walks.Shorten.{end_none, end-some}
use Rattle.volume.proofs.shorten.mark_tail.Goals as goal

pub returns-then-tail-ne0 : goal.returns-then-tail-ne0
returns-then-tail-ne0 c = c.mark.ensures ∙ end-some _ _ _ c.if-tail-ne0.true

pub returns-else-tail-ne0 : goal.returns-else-tail-ne0
returns-else-tail-ne0 c = end_none _ _ _ c.if-tail-ne0.false
