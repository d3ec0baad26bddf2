use Prim.Native.Nat.{ℕ}
use mathlib.Core.Path.{refl, sym, ap, ◌∙◌}
use native.Mathlib.Numerals.{add-one}
use native.Mathlib.Omega.{arith}
use lib.ListN.{length-set}
use Rattle.layout.proofs.Laws.Chains.{nth, nth-suc}
use Rattle.chain_table.specs.Numbers.{value_in}
use Rattle.chain_table.proofs.Laws.Turns.{fill_more}
use Rattle.chain_table.proofs.Laws.Numbers.{entries-are, chain-entries}
use Rattle.chain_table.proofs.questions.chain.Goals as goal

pub loop-block-init : goal.loop-block-init
loop-block-init c = (refl, refl, omega arith, λ x h. absurd (omega arith))

pub loop-block-preserved : goal.loop-block-preserved
loop-block-preserved c =
    let l = c.loop-block in
    let i = l.block-index in
    let v = value_in c.args.numbers.now in (
      simp length-set l.invariant.0,
      c.value-b.ensures ∙ ap v l.invariant.1 ∙ sym (nth-suc v i _) ∙ rw add-one,
      omega arith,
      fill_more (λ (x : ℕ). nth v x c.args.first) l.blocks i _ (omega arith) l.invariant.3 l.invariant.1,
    )

pub shape_of-blocks : goal.shape_of-blocks
shape_of-blocks c = c.loop-block.invariant.0

pub returns : goal.returns
returns c = entries-are _ _ _ (omega arith) (λ x h. c.loop-block.invariant.3 x (omega arith)) ∙ chain-entries _ _ _
