use Rattle.std.proofs.Common.{sym}
use borrow.Author.Tests.{eq-eqb, ne_eqb}
use Rattle.layout.proofs.Laws.Tests.{first_of-refused}
use Rattle.volume.specs.Walks.Places.{brought_refusal}
use Rattle.volume.proofs.place.brought_refusal.Goals as goal

pub returns-then-form-ne0 : goal.returns-then-form-ne0
unfolding brought_refusal
returns-then-form-ne0 c = sym (first_of-refused _ _ c.if-form-ne0.true)

pub returns-then-flags-ne0 : goal.returns-then-flags-ne0
unfolding brought_refusal
returns-then-flags-ne0 c = rw (c.number.ensures, c.if-form-ne0.false, ne_eqb _ 0 c.if-flags-ne0.true)

pub returns : goal.returns
unfolding brought_refusal
returns c = rw (c.if-form-ne0.false, eq-eqb _ 0 c.if-flags-ne0.false)
