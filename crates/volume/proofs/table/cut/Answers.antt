use mathlib.Core.Path.{◌∙◌}
use Rattle.volume.proofs.Walks.Shorten.{cut-nothing, cut-done}
use Rattle.volume.proofs.table.cut.Goals as goal

pub returns-then-k-eq0 : goal.returns-then-k-eq0
returns-then-k-eq0 c = cut-nothing _ _ _ _ _ c.if-k-eq0.true

pub returns : goal.returns
returns c = c.link.ensures ∙ rw c.release.ensures (cut-done _ _ _ _ _ c.if-k-eq0.false)
