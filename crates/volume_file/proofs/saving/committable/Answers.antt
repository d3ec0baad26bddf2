use Rattle.std.proofs.Common.{refl, sym, ◌∙◌}
use Rattle.std.proofs.lemmas.Result.{err_from_is_err_and}
use Rattle.volume_file.proofs.Laws.Reasons.{some_number}
use Rattle.volume_file.proofs.Walks.Turns.{head-long, head-sized}
use Rattle.volume_file.proofs.Walks.Logging.{commit-head, commit-log, commit-waits, commit-ok}
use Rattle.volume_file.proofs.saving.committable.Goals as goal

pub returns-in_err-h : goal.returns-in_err-h
returns-in_err-h c =
    let p = err_from_is_err_and c.from_residual.result c.from_residual.ensures.1 in
    rw (p.1, p.2) (commit-head _ _ c.in_err-h.ensures.number (some_number _))

pub log_count-k-requires : goal.log_count-k-requires
log_count-k-requires c = head-sized _ _ c.in_ok-h.ensures.number refl _ c.in_ok-h.ensures.home

pub accepted-requires-2 : goal.accepted-requires-2
accepted-requires-2 c = head-sized _ _ c.in_ok-h.ensures.number refl _ c.in_ok-h.ensures.home

pub returns-in_err-accepted : goal.returns-in_err-accepted
returns-in_err-accepted c =
    let p = err_from_is_err_and c.from_residual-in_err-accepted.result c.from_residual-in_err-accepted.ensures.1 in
    rw (p.1, p.2) (commit-log _ _ c.in_ok-h.ensures.number refl _ _ c.log_count-k.ensures c.in_err-accepted.ensures (some_number _))

pub log_waits-requires : goal.log_waits-requires
log_waits-requires c = head-long _ _ c.in_ok-h.ensures.number refl

pub returns-then-log_waits : goal.returns-then-log_waits
returns-then-log_waits c = commit-waits _ _ c.in_ok-h.ensures.number refl _ _ c.log_count-k.ensures c.in_ok-accepted.ensures refl (sym c.log_waits.ensures ∙ c.if-log_waits.true)

pub returns : goal.returns
returns c = commit-ok _ _ c.in_ok-h.ensures.number refl _ _ c.log_count-k.ensures c.in_ok-accepted.ensures refl (sym c.log_waits.ensures ∙ c.if-log_waits.false)
