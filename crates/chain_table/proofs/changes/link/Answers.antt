use Rattle.chain_table.proofs.Laws.Turns.{linked-none, linked-some}
use mathlib.Core.Path.{sym, ◌∙◌}
use Rattle.chain_table.proofs.changes.link.Goals as goal

pub returns-then-last-eq0 : goal.returns-then-last-eq0
returns-then-last-eq0 c = sym (linked-none _ _ _ c.if-last-eq0.true)

pub returns : goal.returns
returns c = c.set.ensures ∙ sym (linked-some _ _ _ c.if-last-eq0.false)
