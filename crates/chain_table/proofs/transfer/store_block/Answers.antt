use mathlib.Core.Path.{refl, sym, ◌∙◌}
use native.Mathlib.Omega.{arith}
use Rattle.chain_table.proofs.Laws.Turns.{store-end, store-next}
use Rattle.chain_table.proofs.transfer.store_block.Goals as goal

pub loop-j-init : goal.loop-j-init
loop-j-init c = (omega arith, refl, refl, refl)

pub loop-j-preserved : goal.loop-j-preserved
loop-j-preserved c =
    let l = c.loop-j in
    (omega arith, refl, omega arith, l.invariant.3 ∙ store-next _ _ _ (omega arith) (omega arith) _ c.put32.ensures)

pub returns : goal.returns
returns c =
    let l = c.loop-j in
    sym (l.invariant.3 ∙ store-end _ _ _ (omega arith))
