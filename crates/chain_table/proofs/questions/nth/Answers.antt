use Prim.Native.Nat.{ℕ}
use mathlib.Core.Path.{◌≡◌, refl, sym, ap, ◌∙◌}
use native.Mathlib.Numerals.{add-one}
use native.Mathlib.Omega.{arith}
use Rattle.layout.proofs.Laws.Chains.{nth, nth-suc, get_d-chain}
use Rattle.chain_table.specs.Numbers.{value_in}
use Rattle.chain_table.proofs.Laws.Turns.{nth_past}
use Rattle.chain_table.proofs.questions.nth.Goals as goal

pub returns-then-k-i : goal.returns-then-k-i
returns-then-k-i c = sym (nth_past _ _ _ _ (omega arith))

pub loop-init : goal.loop-init
loop-init c = (omega arith, omega arith, refl)

pub loop-preserved : goal.loop-preserved
loop-preserved c =
    let l = c.loop in
    let v = value_in c.args.numbers.now in
    (l.invariant.0, omega arith, c.value-b.ensures ∙ ap v l.invariant.2 ∙ sym (nth-suc v l.counter _) ∙ rw add-one)

pub returns : goal.returns
returns c =
    let l = c.loop in
    let end : l.counter ≡ c.args.i = omega arith in
    l.invariant.2 ∙ ap (λ (j : ℕ). nth (value_in c.args.numbers.now) j c.args.first) end ∙ sym (get_d-chain _ _ _ _ l.invariant.0)
