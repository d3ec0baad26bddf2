use Rattle.std.proofs.Common.{sym}
use Rattle.std.proofs.lemmas.Result.{err_from_is_err_and}
use Rattle.layout.specs.Reasons.{number_of}
use Rattle.layout.proofs.Laws.Reasons.{reason}
use Rattle.store.specs.Asked.{asked_in}
use Rattle.journal.proofs.Walks.Changes.{ready, change-unready}
use Rattle.journal.proofs.calls.change_in.Goals as goal

pub returns-in_err-ready_refusal-clause-answer : goal.returns-in_err-ready_refusal-clause-answer
returns-in_err-ready_refusal-clause-answer c =
    let a = c.args in
    let why = c.in_err-ready_refusal.field-0.0 in
    let q = err_from_is_err_and c.from_residual.result c.from_residual.ensures.1 in
    rw (q.1, q.2) (change-unready (asked_in a.asked.what a.asked.directory.now a.asked.path.now a.asked.bytes.now) a.image.now a.journal.now (number_of why) c.in_err-ready_refusal.ensures (reason why)).0

pub returns-in_err-ready_refusal-clause-state : goal.returns-in_err-ready_refusal-clause-state
returns-in_err-ready_refusal-clause-state c =
    let a = c.args in
    let why = c.in_err-ready_refusal.field-0.0 in
    (change-unready (asked_in a.asked.what a.asked.directory.now a.asked.path.now a.asked.bytes.now) a.image.now a.journal.now (number_of why) c.in_err-ready_refusal.ensures (reason why)).1

pub change_ready_in-requires : goal.change_ready_in-requires
change_ready_in-requires c = ready _ _ (sym c.in_ok-ready_refusal.ensures)
