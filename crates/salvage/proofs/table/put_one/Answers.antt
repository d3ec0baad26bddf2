use Rattle.std.proofs.Common.{sym, ◌∙◌}
use borrow.Author.Tests.{eq-eqb, ne_eqb}
use Rattle.salvage.proofs.Walks.Turns.{one_left, one_set}
use Rattle.salvage.proofs.table.put_one.Goals as goal

pub returns-then-entry-ne1 : goal.returns-then-entry-ne1
returns-then-entry-ne1 c = c.set_entry.ensures ∙ sym (one_set _ _ (ne_eqb _ 1 (λ z. c.if-entry-ne1.true (c.entry.ensures ∙ z))))

pub returns-else-entry-ne1 : goal.returns-else-entry-ne1
returns-else-entry-ne1 c = sym (one_left _ _ (eq-eqb _ 1 (sym c.entry.ensures ∙ c.if-entry-ne1.false)))
