use mathlib.Core.Path.{refl}
use native.Mathlib.Omega.{arith}
use lib.ListN.{length-set}
use Rattle.layout.specs.Walks.Chains.{entry_in}
use Rattle.chain_table.proofs.Laws.Turns.{fill_more}
use Rattle.chain_table.proofs.Laws.Numbers.{entries-are}
use Rattle.chain_table.proofs.transfer.load_block.Goals as goal

pub loop-j-init : goal.loop-j-init
loop-j-init c = (omega arith, refl, refl, λ i h. absurd (omega arith))

pub loop-j-preserved : goal.loop-j-preserved
loop-j-preserved c =
    let l = c.loop-j in
    (omega arith, refl, simp length-set l.invariant.2, fill_more (entry_in c.args.block.now) l.numbers l.j _ (omega arith) l.invariant.3 c.get32.ensures)

pub returns : goal.returns
returns c = entries-are _ _ _ (omega arith) (λ i h. c.loop-j.invariant.3 i (omega arith))
