use mathlib.Core.Path.{sym, ◌∙◌}
use native.Mathlib.Omega.{arith}
use Rattle.layout.proofs.Laws.Chains.{last_none, last_some}
use Rattle.chain_table.proofs.questions.last.Goals as goal

pub returns-then-k-eq0 : goal.returns-then-k-eq0
returns-then-k-eq0 c = sym (last_none _ _ _ c.if-k-eq0.true)

pub returns : goal.returns
returns c = c.nth.ensures ∙ sym (last_some _ _ _ (omega arith))
