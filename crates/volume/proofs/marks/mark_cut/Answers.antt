use mathlib.Core.Path.{◌∙◌}
use Rattle.volume.proofs.Walks.Shorten.{cut-unmarked, cut-first, cut-behind}
use Rattle.volume.proofs.marks.mark_cut.Goals as goal

pub returns-then-k-eq0 : goal.returns-then-k-eq0
returns-then-k-eq0 c = cut-unmarked _ _ _ _ _ c.if-k-eq0.true

pub returns-then-last-eq0 : goal.returns-then-last-eq0
returns-then-last-eq0 c = c.mark_freed.ensures ∙ cut-first _ _ _ _ _ c.if-k-eq0.false c.if-last-eq0.true

pub returns : goal.returns
returns c = c.mark.ensures ∙ rw c.mark_freed.ensures (cut-behind _ _ _ _ _ c.if-k-eq0.false c.if-last-eq0.false)
