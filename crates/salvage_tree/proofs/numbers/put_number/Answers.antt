use mathlib.Core.Path.{sym, ◌∙◌}
use Rattle.salvage_tree.proofs.Walks.Numbers.{number-left, number-set}
use Rattle.salvage_tree.proofs.numbers.put_number.Goals as goal

pub returns-then-get32-v : goal.returns-then-get32-v
returns-then-get32-v c = number-left _ _ _ (sym c.get32.ensures ∙ c.if-get32-v.true)

pub returns : goal.returns
returns c = c.put32.ensures ∙ number-set _ _ _ (λ z. c.if-get32-v.false (c.get32.ensures ∙ z))
