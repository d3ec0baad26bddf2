use mathlib.Core.Path.{sym, ◌∙◌}
use borrow.Author.Tests.{eq-eqb}
use lib.ListN.{get_or}
use Rattle.chain_table.proofs.Laws.Turns.{free-or, marked-or}
use Rattle.chain_table.proofs.questions.free_or_marked.Goals as goal

pub returns-then-value-eq0 : goal.returns-then-value-eq0
returns-then-value-eq0 c = eq-eqb _ _ c.if-value-eq0.true ∙ sym (free-or _ (get_or c.args.marks.now c.args.b 0) (sym c.value.ensures ∙ c.if-value-eq0.true))

pub returns-else-value-eq0 : goal.returns-else-value-eq0
returns-else-value-eq0 c = c.is_marked.ensures ∙ sym (marked-or _ (get_or c.args.marks.now c.args.b 0) (λ z. c.if-value-eq0.false (c.value.ensures ∙ z)))
