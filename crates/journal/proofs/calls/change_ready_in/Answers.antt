-- Each exit is one law of Changes.
use Rattle.std.proofs.Common.{refl, sym}
use Rattle.std.proofs.lemmas.Result.{err_from_is_err_and}
use Rattle.layout.specs.Reasons.{number_of}
use Rattle.layout.proofs.Laws.Reasons.{reason}
use Rattle.store.specs.Asked.{asked_in}
use Rattle.journal.proofs.Walks.Changes.{change-refused, change-full, change-done}
use Rattle.journal.proofs.calls.change_ready_in.Goals as goal

pub refusal-requires : goal.refusal-requires
refusal-requires c = c.requires.sound

pub returns-in_err-found-clause-answer : goal.returns-in_err-found-clause-answer
returns-in_err-found-clause-answer c =
    let a = c.args in
    let why = c.in_err-found.field-0.0 in
    let q = err_from_is_err_and c.from_residual.result c.from_residual.ensures.1 in
    rw (q.1, q.2) (change-refused (asked_in a.asked.what a.asked.directory.now a.asked.path.now a.asked.bytes.now) a.image.now a.journal.now c.requires (number_of why) c.in_err-found.ensures (reason why)).0

pub returns-in_err-found-clause-state : goal.returns-in_err-found-clause-state
returns-in_err-found-clause-state c =
    let a = c.args in
    let why = c.in_err-found.field-0.0 in
    (change-refused (asked_in a.asked.what a.asked.directory.now a.asked.path.now a.asked.bytes.now) a.image.now a.journal.now c.requires (number_of why) c.in_err-found.ensures (reason why)).1

pub record_change-requires : goal.record_change-requires
record_change-requires c = let f = c.in_ok-found.ensures in (c.requires, sym f.number_is, f.target refl)

pub returns-in_default-clause-answer : goal.returns-in_default-clause-answer
returns-in_default-clause-answer c =
    (change-full _ _ _ c.requires (sym c.in_ok-found.ensures.number_is) _ _ c.in_default.ensures.recorded refl).0

pub returns-in_default-clause-state : goal.returns-in_default-clause-state
returns-in_default-clause-state c =
    (change-full _ _ _ c.requires (sym c.in_ok-found.ensures.number_is) _ _ c.in_default.ensures.recorded refl).1

pub make-slot-requires : goal.make-slot-requires
make-slot-requires c = let f = c.in_ok-found.ensures in (c.requires.sound, sym f.number_is, f.target refl)

pub returns-clause-answer : goal.returns-clause-answer
returns-clause-answer c =
    let make = c.make-slot in
    let recorded = c.in-Some.ensures in
    (change-done _ _ _ c.requires (sym c.in_ok-found.ensures.number_is) _ _ recorded.recorded recorded.some _ make.ensures.slot _ make.ensures.bytes).0

pub returns-clause-state : goal.returns-clause-state
returns-clause-state c =
    let make = c.make-slot in
    let recorded = c.in-Some.ensures in
    (change-done _ _ _ c.requires (sym c.in_ok-found.ensures.number_is) _ _ recorded.recorded recorded.some _ make.ensures.slot _ make.ensures.bytes).1
