use mathlib.Core.Path.{refl, sym, ◌∙◌}
use native.Mathlib.Omega.{arith}
use Rattle.chain_table.proofs.Laws.Turns.{blocks-rounded, rest-next, rest-stop, rest_end}
use Rattle.chain_table.proofs.questions.rest_free.Goals as goal

pub loop-b-init : goal.loop-b-init
loop-b-init c = let e = c.div_ceil-b.ensures ∙ blocks-rounded _ in (refl, rw e)

pub returns-then-not-free_or_marked : goal.returns-then-not-free_or_marked
returns-then-not-free_or_marked c =
    sym (c.loop-b.invariant.1 ∙ rest-stop _ _ _ _ (omega arith) (sym c.if-not-free_or_marked.true ∙ c.free_or_marked.ensures))

pub loop-b-preserved : goal.loop-b-preserved
loop-b-preserved c =
    (refl, c.loop-b.invariant.1 ∙ rest-next _ _ _ _ (omega arith) (sym c.if-not-free_or_marked.false ∙ c.free_or_marked.ensures))

pub returns : goal.returns
returns c = sym (c.loop-b.invariant.1 ∙ rest_end _ _ _ _ (omega arith))
