use Rattle.std.proofs.Common.{sym, ◌∙◌}
use Rattle.std.proofs.lemmas.Result.{err_from_is_err_and}
use Rattle.layout.specs.Reasons.{number_of}
use Rattle.layout.proofs.Laws.Reasons.{reason}
use Rattle.std.proofs.lemmas.Bool.{eq-eqb, eqb-true}
use Rattle.layout.proofs.Laws.Tests.{true-not-false}
use Rattle.journal.proofs.Walks.Changes.{ready}
use Rattle.append.proofs.Laws.Turns.{append-unready, append-empty, append-some}
use Rattle.append.proofs.call.append.Goals as goal

pub returns-in_err-ready_refusal-clause-answer : goal.returns-in_err-ready_refusal-clause-answer
returns-in_err-ready_refusal-clause-answer c =
    let a = c.args in
    let why = c.in_err-ready_refusal.field-0.0 in
    let q = err_from_is_err_and c.from_residual.result c.from_residual.ensures.1 in
    rw (q.1, q.2) (append-unready a.image.now a.journal.now a.path.now a.time a.piece.now (number_of why) c.in_err-ready_refusal.ensures (reason why)).0

pub returns-in_err-ready_refusal-clause-state : goal.returns-in_err-ready_refusal-clause-state
returns-in_err-ready_refusal-clause-state c =
    let a = c.args in
    let why = c.in_err-ready_refusal.field-0.0 in
    (append-unready a.image.now a.journal.now a.path.now a.time a.piece.now (number_of why) c.in_err-ready_refusal.ensures (reason why)).1

pub file_end-end-requires : goal.file_end-end-requires
file_end-end-requires c = (ready _ _ (sym c.in_ok-ready_refusal.ensures)).sound

pub append_nothing-requires : goal.append_nothing-requires
append_nothing-requires c = (ready _ _ (sym c.in_ok-ready_refusal.ensures)).sound

pub returns-then-is_empty-clause-answer : goal.returns-then-is_empty-clause-answer
returns-then-is_empty-clause-answer c =
    let w = ready _ _ (sym c.in_ok-ready_refusal.ensures) in
    (append-empty _ _ _ _ w _ (eqb-true _ _ (sym c.is_empty.ensures ∙ c.if-is_empty.true)) _ c.file_end-end.ensures c.append_nothing.ensures.answer).0

pub returns-then-is_empty-clause-state : goal.returns-then-is_empty-clause-state
returns-then-is_empty-clause-state c =
    let w = ready _ _ (sym c.in_ok-ready_refusal.ensures) in
    (append-empty _ _ _ _ w _ (eqb-true _ _ (sym c.is_empty.ensures ∙ c.if-is_empty.true)) _ c.file_end-end.ensures c.append_nothing.ensures.answer).1

pub change_ready-requires : goal.change_ready-requires
change_ready-requires c = ready _ _ (sym c.in_ok-ready_refusal.ensures)

pub returns-clause-answer : goal.returns-clause-answer
returns-clause-answer c =
    let n = c.change_ready.ensures in
    (append-some _ _ _ _ _ (λ z. true-not-false (eq-eqb _ _ z) (sym c.is_empty.ensures ∙ c.if-is_empty.false)) _ c.file_end-end.ensures n.answer n.state).0

pub returns-clause-state : goal.returns-clause-state
returns-clause-state c =
    let n = c.change_ready.ensures in
    (append-some _ _ _ _ _ (λ z. true-not-false (eq-eqb _ _ z) (sym c.is_empty.ensures ∙ c.if-is_empty.false)) _ c.file_end-end.ensures n.answer n.state).1
