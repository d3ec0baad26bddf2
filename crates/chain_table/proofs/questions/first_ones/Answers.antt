use Prim.Native.Nat.{◌+◌, ◌-◌}
use mathlib.Core.Path.{◌≡◌, sym, ap, ◌∙◌}
use native.Mathlib.Omega.{arith}
use native.Mathlib.Nat.{sub-zero}
use Rattle.layout.specs.Table.{all_ones}
use Rattle.layout.proofs.Walks.Chains.{all_ones-end, all_ones-next, all_ones-stop}
use Rattle.chain_table.specs.Numbers.{value_in}
use Rattle.chain_table.proofs.Laws.Turns.{blocks-rounded}
use Rattle.chain_table.proofs.questions.first_ones.Goals as goal

pub loop-b-init : goal.loop-b-init
loop-b-init c = let e = c.div_ceil-b-end.ensures ∙ blocks-rounded _ in (rw e, rw (sub-zero, e))

pub returns-then-value-ne1 : goal.returns-then-value-ne1
returns-then-value-ne1 c = sym (c.loop-b.invariant.1 ∙ all_ones-stop _ _ _ (omega arith) (λ z. c.if-value-ne1.true (c.value.ensures ∙ z)))

pub loop-b-preserved : goal.loop-b-preserved
loop-b-preserved c =
    let l = c.loop-b in
    let end = c.div_ceil-b-end.result + 1 in
    let rest : end - l.b - 1 ≡ end - (l.b + 1) = omega arith in
    (l.invariant.0, l.invariant.1 ∙ all_ones-next _ _ _ (omega arith) (sym c.value.ensures ∙ c.if-value-ne1.false) ∙ ap (all_ones (value_in c.args.numbers.now) (l.b + 1)) rest)

pub returns : goal.returns
returns c = sym (c.loop-b.invariant.1 ∙ all_ones-end _ _ _ (omega arith))
