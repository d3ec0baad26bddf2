use Rattle.std.proofs.Common.{sym, ◌∙◌}
use Rattle.volume.proofs.Walks.Lent.{linked-none, linked-some}
use Rattle.volume.proofs.table.link.Goals as goal

pub returns-then-last-ne0 : goal.returns-then-last-ne0
returns-then-last-ne0 c = c.set_entry.ensures ∙ sym (linked-some _ _ _ c.if-last-ne0.true)

pub returns-else-last-ne0 : goal.returns-else-last-ne0
returns-else-last-ne0 c = sym (linked-none _ _ _ c.if-last-ne0.false)
