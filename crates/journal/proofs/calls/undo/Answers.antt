-- Each exit is one law of Undoing.
use Rattle.std.specs.Prelude.{ℕ, ◌≢◌, Option, unwrap_or, IfSome}
use Rattle.std.proofs.Common.{refl, sym, ap, subst, ◌∙◌}
use Rattle.std.proofs.lemmas.Result.{err_from_is_err_and}
use Rattle.layout.specs.Reasons.{number_of}
use Rattle.layout.proofs.Laws.Reasons.{reason}
use Rattle.journal.proofs.Walks.Undoing.{undo-unready, undo-none, undo-done, last-ready}
use Rattle.journal.proofs.Walks.Changes.{ready, inspected-last}
use Rattle.journal.proofs.calls.undo.Goals as goal

pub returns-in_err-last-clause-answer : goal.returns-in_err-last-clause-answer
returns-in_err-last-clause-answer c =
    let a = c.args in
    let why = c.in_err-last.field-0.0 in
    let q = err_from_is_err_and c.from_residual.result c.from_residual.ensures.1 in
    rw (q.1, q.2) (undo-unready a.image.now a.journal.now (number_of why) c.in_err-last.ensures (reason why)).0

pub returns-in_err-last-clause-state : goal.returns-in_err-last-clause-state
returns-in_err-last-clause-state c =
    let a = c.args in
    let why = c.in_err-last.field-0.0 in
    (undo-unready a.image.now a.journal.now (number_of why) c.in_err-last.ensures (reason why)).1

pub returns-in_default-clause-answer : goal.returns-in_default-clause-answer
returns-in_default-clause-answer c =
    let i = c.in_ok-last.ensures in
    let none = ap (λ (o : Option ℕ). unwrap_or o 0) c.in_default.is in
    (undo-none _ _ (ready _ _ (sym i.0.number_is)) (sym (inspected-last _ i.0 refl) ∙ none)).0

pub returns-in_default-clause-state : goal.returns-in_default-clause-state
returns-in_default-clause-state c =
    let i = c.in_ok-last.ensures in
    let none = ap (λ (o : Option ℕ). unwrap_or o 0) c.in_default.is in
    (undo-none _ _ (ready _ _ (sym i.0.number_is)) (sym (inspected-last _ i.0 refl) ∙ none)).1

pub take_back-requires : goal.take_back-requires
take_back-requires c =
    let i = c.in_ok-last.ensures in
    let w = ready _ _ (sym i.0.number_is) in
    let at = ap (λ (o : Option ℕ). unwrap_or o 0) c.in-Some.is in
    last-ready w (sym at ∙ inspected-last _ i.0 refl) (subst (λ (o : Option ℕ). IfSome o (λ k. k ≢ 0)) c.in-Some.is i.1)

pub returns-clause-answer : goal.returns-clause-answer
returns-clause-answer c =
    let i = c.in_ok-last.ensures in
    let w = ready _ _ (sym i.0.number_is) in
    let at = ap (λ (o : Option ℕ). unwrap_or o 0) c.in-Some.is in
    let last = last-ready w (sym at ∙ inspected-last _ i.0 refl) (subst (λ (o : Option ℕ). IfSome o (λ k. k ≢ 0)) c.in-Some.is i.1) in
    let t = c.take_back.ensures in
    (undo-done _ _ _ last w.sound _ t.size _ _ t.image t.journal).0

pub returns-clause-state : goal.returns-clause-state
returns-clause-state c =
    let i = c.in_ok-last.ensures in
    let w = ready _ _ (sym i.0.number_is) in
    let at = ap (λ (o : Option ℕ). unwrap_or o 0) c.in-Some.is in
    let last = last-ready w (sym at ∙ inspected-last _ i.0 refl) (subst (λ (o : Option ℕ). IfSome o (λ k. k ≢ 0)) c.in-Some.is i.1) in
    let t = c.take_back.ensures in
    (undo-done _ _ _ last w.sound _ t.size _ _ t.image t.journal).1
