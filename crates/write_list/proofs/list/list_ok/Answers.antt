use mathlib.Core.Path.{sym, ◌∙◌}
use mathlib.Core.Logic.{inl, inr}
use native.Mathlib.Omega.{arith}
use borrow.Author.Tests.{eq-eqb, ne_eqb, eqb-true}
use Rattle.layout.proofs.Laws.Tests.{true-not-false}
use Rattle.write_list.proofs.Laws.Turns.{list-short, list-long, list-version, list_length, list-items}
use Rattle.write_list.proofs.list.list_ok.Goals as goal
use Rattle.write_list.proofs.list.list_ok.Goals.{then-list-eq1, else-list-eq1}

pub returns-then-list-lt5 : goal.returns-then-list-lt5
returns-then-list-lt5 c =
    elim c.then-list-lt5.either [
      | inl short ↦ sym (list-short _ short)
      | inr long ↦ sym (list-long _ long.0 long.1)
    ]

pub returns-then-get32-list : goal.returns-then-get32-list
returns-then-get32-list c =
    let l = c.args.list.now in
    elim c.if-list-eq1.branch [
      | then-list-eq1 w ↦
          let long = eqb-true _ _ (sym w.value-is ∙ c.if-get32-list.true) in
          c.items_ok.ensures ∙ sym (list-items l (omega arith) (omega arith) w.if-list-eq1.true (sym w.get32.ensures ∙ long))
      | else-list-eq1 w ↦ absurd (true-not-false c.if-get32-list.true (w.value-is ∙ ne_eqb _ _ w.if-list-eq1.false))
    ]

pub returns-else-get32-list : goal.returns-else-get32-list
returns-else-get32-list c =
    let l = c.args.list.now in
    c.if-get32-list.false
    ∙ sym (elim c.if-list-eq1.branch [
      | then-list-eq1 w ↦
          list_length l (omega arith) (omega arith) w.if-list-eq1.true
          (λ e. true-not-false (w.value-is ∙ eq-eqb _ _ (w.get32.ensures ∙ e)) c.if-get32-list.false)
      | else-list-eq1 w ↦ list-version l (omega arith) (omega arith) w.if-list-eq1.false
    ])
