use Rattle.std.proofs.Common.{ℕ, sym, ap, ◌∙◌, subst}
use Rattle.std.proofs.lemmas.Bool.{eqb-true, eqb-false}
use Rattle.layout.specs.Walks.Paths.{good_from}
use Rattle.layout.specs.Walks.Slots.{SomeUnlessZero}
use Rattle.layout.proofs.Laws.Bytes.{part-rest}
use Rattle.layout.proofs.Walks.Paths.{good_parts-empty, good_parts-other, good_parts-rest}
use Rattle.layout.proofs.path.path_parts.Goals.{then-is_empty-via-then-is_empty, then-is_empty-via-else-is_empty+then-path-ne47}
use Rattle.layout.proofs.path.path_parts.Goals as goal

pub returns-then-is_empty : goal.returns-then-is_empty
returns-then-is_empty c =
    elim c.then-is_empty.branch [
      | then-is_empty-via-then-is_empty w ↦ good_parts-empty c.args.path.now (eqb-true _ _ (sym c.is_empty.ensures ∙ w.if-is_empty.true))
      | then-is_empty-via-else-is_empty+then-path-ne47 w ↦ good_parts-other c.args.path.now (eqb-false _ _ (sym c.is_empty.ensures ∙ w.if-is_empty.false)) w.if-path-ne47.true
    ]

pub returns : goal.returns
returns c =
    let l = c.args.path.now in
    subst (λ (x : ℕ). SomeUnlessZero x c.count_parts.result) (ap (good_from 0) (part-rest l 1) ∙ good_parts-rest l (eqb-false _ _ (sym c.is_empty.ensures ∙ c.if-is_empty.false)) c.if-path-ne47.false) c.count_parts.ensures
