use Rattle.std.proofs.Common.{refl, sym, arith}
use Rattle.volume_file.proofs.Laws.Reasons.{some_number}
use Rattle.volume_file.proofs.Walks.Turns.{waiting-some, waiting_none, file-long, nothing-done, ready-size, ready, recover-done, recover-kept}
use Rattle.volume_file.proofs.recovery.finish.Goals as goal

pub returns-in_err-h-clause-file : goal.returns-in_err-h-clause-file
returns-in_err-h-clause-file c = recover-kept _ _ c.in_err-h.ensures.number (some_number _)

pub waiting-requires : goal.waiting-requires
waiting-requires c = ready-size _ _ c.in_ok-h.ensures.number refl _ c.in_ok-h.ensures.home

pub returns-in_default-clause-file : goal.returns-in_default-clause-file
returns-in_default-clause-file c = nothing-done _ _ c.in_ok-h.ensures.number refl (waiting_none _ c.in_default.ensures)

pub restore-requires : goal.restore-requires
restore-requires c =
    let w = waiting-some _ _ c.in-Some.ensures in
    let r = ready _ _ c.in_ok-h.ensures.number refl _ _ w.0 c.in_ok-h.ensures.home w.1 in
    (r.small, r.few, r.size, r.rise)

pub set_flag-requires : goal.set_flag-requires
set_flag-requires c = omega (arith, file-long _ (sym c.in_ok-h.ensures.number))

pub overflow_cast-result : goal.overflow_cast-result
overflow_cast-result c =
    let w = waiting-some _ _ c.in-Some.ensures in
    let r = ready _ _ c.in_ok-h.ensures.number refl _ _ w.0 c.in_ok-h.ensures.home w.1 in
    omega (arith, r.small, r.few)

pub returns-clause-file : goal.returns-clause-file
returns-clause-file c =
    let w = waiting-some _ _ c.in-Some.ensures in
    recover-done _ _ c.in_ok-h.ensures.number refl _ _ w.0 c.in_ok-h.ensures.home w.1 _ _ c.restore.ensures c.set_flag.ensures
