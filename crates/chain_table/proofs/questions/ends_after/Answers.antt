use Prim.Native.Nat.{◌-◌, ◌+◌}
use mathlib.Core.Logic.{inl, inr}
use mathlib.Core.Path.{◌≡◌, refl, sym, ap, ◌∙◌}
use native.Mathlib.Omega.{arith}
use native.Mathlib.Nat.{sub-zero}
use lib.ListN.{length}
use Rattle.layout.specs.Table.{ends_after}
use Rattle.layout.proofs.Walks.Chains.{ends-none, ends_next, ends_low, ends-high}
use Rattle.chain_table.specs.Numbers.{value_in}
use Rattle.chain_table.proofs.Laws.Turns.{blocks-rounded}
use Rattle.chain_table.proofs.questions.ends_after.Goals as goal

pub loop-init : goal.loop-init
loop-init c = (refl, c.div_ceil-t.ensures ∙ blocks-rounded _, rw sub-zero)

pub returns-then-b-t : goal.returns-then-b-t
returns-then-b-t c =
    let l = c.loop in
    elim c.then-b-t.either [
      | inl low ↦ sym (l.invariant.2 ∙ ends_low _ _ _ _ (omega arith) (omega arith))
      | inr high ↦ sym (l.invariant.2 ∙ ends-high _ _ _ _ (omega arith) (omega arith) (omega arith))
    ]

pub loop-preserved : goal.loop-preserved
loop-preserved c =
    let l = c.loop in
    let r = c.args.numbers.now in
    let rest : c.args.k - l.counter - 1 ≡ c.args.k - (l.counter + 1) = omega arith in
    (refl, l.invariant.1, l.invariant.2 ∙ ends_next _ _ _ _ (omega arith) (omega arith) (omega arith) ∙ ap (ends_after (value_in r) (length r) _) rest)

pub returns : goal.returns
returns c = sym (c.loop.invariant.2 ∙ ends-none _ _ _ _ (omega arith))
