use Rattle.std.proofs.Common.{refl}
use Rattle.std.proofs.lemmas.Result.{err_from_is_err_and}
use Rattle.volume_file.proofs.Laws.Reasons.{some_number}
use Rattle.volume_file.proofs.Walks.Turns.{file-refused, head-sized, file-quiet, file-rest, waiting-some, waiting_none}
use Rattle.volume_file.proofs.check.accepted.Goals as goal

pub returns-in_err-h-clause-number : goal.returns-in_err-h-clause-number
returns-in_err-h-clause-number c =
    let p = err_from_is_err_and c.from_residual.result c.from_residual.ensures.1 in
    rw (p.1, p.2) (file-refused _ _ c.in_err-h.ensures.number (some_number _))

pub waiting-requires : goal.waiting-requires
waiting-requires c = head-sized _ _ c.in_ok-h.ensures.number refl _ c.in_ok-h.ensures.home

pub accepted-requires-in-Some : goal.accepted-requires-in-Some
accepted-requires-in-Some c = head-sized _ _ c.in_ok-h.ensures.number refl _ c.in_ok-h.ensures.home

pub returns-in_err-accepted-clause-number : goal.returns-in_err-accepted-clause-number
returns-in_err-accepted-clause-number c =
    let p = err_from_is_err_and c.from_residual-in_err-accepted.result c.from_residual-in_err-accepted.ensures.1 in
    let w = waiting-some _ _ c.in-Some.ensures in
    rw (p.1, p.2) (file-rest _ _ c.in_ok-h.ensures.number refl _ _ w.1 c.in_err-accepted.ensures)

pub returns-in_ok-accepted-clause-number : goal.returns-in_ok-accepted-clause-number
returns-in_ok-accepted-clause-number c =
    let w = waiting-some _ _ c.in-Some.ensures in
    file-rest _ _ c.in_ok-h.ensures.number refl _ _ w.1 c.in_ok-accepted.ensures

pub returns-in_default-clause-number : goal.returns-in_default-clause-number
returns-in_default-clause-number c = file-quiet _ _ c.in_ok-h.ensures.number refl (waiting_none _ c.in_default.ensures)
