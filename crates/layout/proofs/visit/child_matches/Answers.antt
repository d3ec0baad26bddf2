use mathlib.Core.Path.{◌∙◌}
use native.Mathlib.Omega.{arith}
use Rattle.layout.proofs.Walks.Visits.{self-number, self-field, child_entry-beyond, child_entry-size, child_entry-name}
use Rattle.layout.proofs.visit.child_matches.Goals as goal

pub number_at-b-requires : goal.number_at-b-requires
number_at-b-requires c = (omega arith, omega arith)

pub returns-then-n-b : goal.returns-then-n-b
returns-then-n-b c = child_entry-beyond _ _ _ _ c.number_at-b.ensures c.if-n-b.true

pub number_at-requires : goal.number_at-requires
number_at-requires c = (omega arith, omega arith)

pub number_at-requires-2 : goal.number_at-requires-2
number_at-requires-2 c = (omega arith, omega arith)

pub returns-then-number_at : goal.returns-then-number_at
returns-then-number_at c =
    let a = c.args in
    child_entry-size a.image.now _ _ _ c.number_at-b.ensures c.if-n-b.false _ _ (self-number a.image.now c.number_at-b.result _ 12 c.number_at.ensures) c.number_at-2.ensures c.if-number_at.true

pub field_at-requires : goal.field_at-requires
field_at-requires c = omega arith

pub field_at-requires-2 : goal.field_at-requires-2
field_at-requires-2 c = omega arith

pub returns : goal.returns
returns c =
    let a = c.args in
    c.equal.ensures ∙ rw (c.field_at.ensures, self-field a.image.now c.number_at-b.result, c.field_at-2.ensures)
    (child_entry-name a.image.now _ _ _ c.number_at-b.ensures c.if-n-b.false _ _ (self-number a.image.now c.number_at-b.result _ 12 c.number_at.ensures) c.number_at-2.ensures (omega arith))
