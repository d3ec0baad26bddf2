use Rattle.std.proofs.Common.{sym}
use Rattle.std.proofs.lemmas.Result.{err_from_is_err_and}
use borrow.Author.Tests.{eq-eqb, ne_eqb}
use Rattle.layout.specs.Reasons.{number_of}
use Rattle.layout.proofs.Laws.Reasons.{reason}
use Rattle.layout.proofs.Laws.Tests.{first_of-refused}
use Rattle.volume.specs.Walks.Places.{brought_refusal}
use Rattle.volume.proofs.place.accept_brought.Goals as goal

pub returns-in_err-form : goal.returns-in_err-form
unfolding brought_refusal
returns-in_err-form c =
    let why = c.in_err-form.field-0.0 in
    let q = err_from_is_err_and c.from_residual.result c.from_residual.ensures.1 in
    rw (c.in_err-form.was, q.1, q.2) (sym (first_of-refused (number_of why) _ (reason why)))

pub returns-then-flags-ne0 : goal.returns-then-flags-ne0
unfolding brought_refusal
returns-then-flags-ne0 c = rw (c.in_ok-form.was, ne_eqb _ 0 c.if-flags-ne0.true)

pub returns : goal.returns
unfolding brought_refusal
returns c = rw (c.in_ok-form.was, eq-eqb _ 0 c.if-flags-ne0.false)
