use mathlib.Core.Path.{ap, ◌∙◌}
use native.Mathlib.Omega.{arith}
use Rattle.std.proofs.lemmas.Result.{err_from_is_err_and}
use Rattle.write_list.proofs.Laws.Items.{item}
use Rattle.journal.proofs.Walks.Changes.{answer-number}
use Rattle.journal.specs.Run.{number_of}
use Rattle.write_list.proofs.call.write_item.Goals as goal

pub overflow_add-at : goal.overflow_add-at
overflow_add-at c =
    let i = item _ _ c.requires.1 in
    omega (arith, i.ends, i.room)

pub get32-requires : goal.get32-requires
get32-requires c =
    let i = item _ _ c.requires.1 in
    omega (arith, i.ends, i.room)

pub overflow_add-at-2 : goal.overflow_add-at-2
overflow_add-at-2 c =
    let i = item _ _ c.requires.1 in
    omega (arith, i.ends, i.room)

pub get64-requires : goal.get64-requires
get64-requires c =
    let i = item _ _ c.requires.1 in
    omega (arith, i.ends, i.room)

pub returns-in_err-change_ready-clause-number : goal.returns-in_err-change_ready-clause-number
returns-in_err-change_ready-clause-number c =
    let why = c.in_err-change_ready.field-0.0 in
    let q = err_from_is_err_and c.from_residual.result c.from_residual.ensures.1 in
    rw (q.1, q.2, ← c.get32.ensures, ← c.get64.ensures, ← c.path_of-path.ensures, ← c.data_of-bytes.ensures)
    (ap number_of (c.in_err-change_ready.ensures.answer) ∙ answer-number _ _)

pub returns-in_err-change_ready-clause-state : goal.returns-in_err-change_ready-clause-state
returns-in_err-change_ready-clause-state c =
    rw (← c.get32.ensures, ← c.get64.ensures, ← c.path_of-path.ensures, ← c.data_of-bytes.ensures) c.change_ready.ensures.state

pub returns-clause-number : goal.returns-clause-number
returns-clause-number c =
    rw (← c.get32.ensures, ← c.get64.ensures, ← c.path_of-path.ensures, ← c.data_of-bytes.ensures)
    (ap number_of (c.in_ok-change_ready.ensures.answer) ∙ answer-number _ _)

pub returns-clause-state : goal.returns-clause-state
returns-clause-state c =
    rw (← c.get32.ensures, ← c.get64.ensures, ← c.path_of-path.ensures, ← c.data_of-bytes.ensures) c.change_ready.ensures.state
