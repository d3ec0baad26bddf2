use Rattle.std.proofs.Common.{sym, ◌∙◌}
use Rattle.std.proofs.lemmas.Result.{err_from_is_err_and}
use Rattle.layout.specs.Reasons.{number_of, outcome}
use Rattle.layout.proofs.Laws.Reasons.{reason}
use Rattle.volume.proofs.Walks.Move.{bad_argument, either-second-nine, either_first, either_second}
use Rattle.volume.proofs.moving.either_form.Goals as goal

pub returns-then-eq : goal.returns-then-eq
returns-then-eq c = either-second-nine _ _ (sym (bad_argument _ c.args.y) ∙ sym c.if-eq.ensures)

pub returns-in_err-x : goal.returns-in_err-x
returns-in_err-x c =
    let why = c.in_err-x.field-0.0 in
    let q = err_from_is_err_and c.from_residual.result c.from_residual.ensures.1 in
    rw (c.in_err-x.was, q.1, q.2) (either_first (number_of why) (outcome c.args.y) (sym (bad_argument _ c.args.y) ∙ sym c.if-eq.ensures) (reason why))

pub returns : goal.returns
returns c = rw c.in_ok-x.was (either_second (outcome c.args.y) (sym (bad_argument _ c.args.y) ∙ sym c.if-eq.ensures))
