use mathlib.Core.Path.{sym, ◌∙◌}
use Rattle.salvage_tree.proofs.Walks.Numbers.{value-left, value_set}
use Rattle.salvage_tree.proofs.numbers.put_value.Goals as goal

pub returns-then-entry-v : goal.returns-then-entry-v
returns-then-entry-v c = value-left _ _ _ (sym c.entry.ensures ∙ c.if-entry-v.true)

pub returns : goal.returns
returns c = c.set_entry.ensures ∙ value_set _ _ _ (λ z. c.if-entry-v.false (c.entry.ensures ∙ z))
