-- Each refused exit contradicts what a right record is; what is left are its numbers.
use mathlib.Core.Path.{sym, ◌∙◌}
use native.Mathlib.Omega.{arith}
use borrow.Author.Tests.{leb-true, le-leb, ne_eqb}
use Rattle.layout.proofs.Laws.Tests.{true-not-false}
use Rattle.journal.specs.Journal.{copies}
use Rattle.journal.proofs.Walks.Scanning.{record-bad, record-rest}
use Rattle.journal.proofs.scan.record_ok.Goals as goal
use Rattle.journal.proofs.scan.record_ok.Goals.{then-size-k, else-size-k}

pub returns-then-used-at : goal.returns-then-used-at
returns-then-used-at c = sym (record-bad _ _ _ (λ f. omega (arith, f.some, f.size, f.inside)))

pub returns-then-size-lt520 : goal.returns-then-size-lt520
returns-then-size-lt520 c = sym (record-bad _ _ _ (λ f. omega (arith, f.some, f.size, c.get32-size.ensures)))

pub returns-then-at-size : goal.returns-then-at-size
unfolding copies
returns-then-at-size c =
    let a = c.args in
    let g = c.get32-size.ensures in
    elim c.if-size-k.branch [
      | then-size-k w ↦
          let inside = leb-true _ _ (sym w.value-is ∙ c.if-at-size.true) in
          c.blocks_rise.ensures ∙ sym (record-rest a.journal.now a.n a.at (omega arith) (omega (arith, w.if-size-k.true, g)) (omega (arith, inside, g)) ∙ rw (← g))
      | else-size-k w ↦ absurd (true-not-false c.if-at-size.true (w.value-is ∙ ne_eqb _ _ w.if-size-k.false))
    ]

pub returns-else-at-size : goal.returns-else-at-size
unfolding copies
returns-else-at-size c =
    let g = c.get32-size.ensures in
    c.if-at-size.false ∙ sym (record-bad _ _ _ (λ f.
    elim c.if-size-k.branch [
      | then-size-k w ↦ true-not-false (w.value-is ∙ le-leb _ _ (omega (arith, f.inside, g))) c.if-at-size.false
      | else-size-k w ↦ w.if-size-k.false (omega (arith, f.size, g))
    ]))
