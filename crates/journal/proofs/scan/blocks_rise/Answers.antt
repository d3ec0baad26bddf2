use mathlib.Core.Path.{sym, ◌∙◌}
use native.Mathlib.Nat.{sub-zero}
use mathlib.Core.Logic.{inl, inr}
use native.Mathlib.Omega.{arith}
use Rattle.journal.proofs.Walks.Scanning.{numbers-low, numbers-high, numbers-step, numbers-end}
use Rattle.journal.proofs.scan.blocks_rise.Goals as goal

pub loop-i-init : goal.loop-i-init
loop-i-init c = (omega arith, omega arith, rw sub-zero)

pub returns-then-b-low : goal.returns-then-b-low
returns-then-b-low c =
    let g = c.get32-b.ensures in
    elim c.then-b-low.either [
      | inl low ↦ sym (c.loop-i.invariant.2 ∙ numbers-low _ _ _ _ _ _ (omega arith) (omega arith))
      | inr high ↦ sym (c.loop-i.invariant.2 ∙ numbers-high _ _ _ _ _ _ (omega arith) (omega arith) (omega arith))
    ]

pub loop-i-preserved : goal.loop-i-preserved
loop-i-preserved c =
    let g = c.get32-b.ensures in
    (omega arith, omega arith, c.loop-i.invariant.2 ∙ numbers-step _ _ _ _ _ _ (omega arith) (omega arith) (omega arith) ∙ rw (← g))

pub returns : goal.returns
returns c = sym (c.loop-i.invariant.2 ∙ numbers-end _ _ _ _ _ _ (omega arith))
