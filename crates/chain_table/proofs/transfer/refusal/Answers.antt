use Rattle.std.proofs.Common.{sym, ◌∙◌}
use Rattle.std.proofs.lemmas.Result.{err_from_is_err_and}
use Rattle.layout.proofs.Laws.Reasons.{reason}
use Rattle.chain_table.proofs.Laws.Outcomes.{refused-check, refused-length, not-refused}
use Rattle.chain_table.proofs.transfer.refusal.Goals as goal

pub returns-in_err-check : goal.returns-in_err-check
returns-in_err-check c =
    let a = c.args in
    let why = c.in_err-check.field-0.0 in
    let q = err_from_is_err_and c.from_residual.result c.from_residual.ensures.1 in
    rw (q.1, q.2) (c.in_err-check.ensures ∙ refused-check a.image.now a.count (λ z. reason why (c.in_err-check.ensures ∙ z)))

pub returns-then-count-image : goal.returns-then-count-image
returns-then-count-image c = refused-length _ _ (sym c.in_ok-check.ensures) c.if-count-image.true

pub returns : goal.returns
returns c = not-refused _ _ (sym c.in_ok-check.ensures) c.if-count-image.false
