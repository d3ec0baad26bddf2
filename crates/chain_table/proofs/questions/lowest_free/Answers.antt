use mathlib.Core.Path.{refl, sym, ◌∙◌}
use native.Mathlib.Omega.{arith}
use Rattle.chain_table.proofs.Laws.Turns.{search-next, search-here, search-end}
use Rattle.chain_table.proofs.questions.lowest_free.Goals as goal

pub loop-b-init : goal.loop-b-init
loop-b-init c = (refl, refl)

pub returns-then-numbers-b-eq0 : goal.returns-then-numbers-b-eq0
returns-then-numbers-b-eq0 c = sym (c.loop-b.invariant.1 ∙ search-here _ _ _ (omega arith) c.if-numbers-b-eq0.true)

pub loop-b-preserved : goal.loop-b-preserved
loop-b-preserved c = (refl, c.loop-b.invariant.1 ∙ search-next _ _ _ (omega arith) c.if-numbers-b-eq0.false)

pub returns : goal.returns
returns c = sym (c.loop-b.invariant.1 ∙ search-end _ _ _ (omega arith))
