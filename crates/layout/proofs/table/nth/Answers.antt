use Rattle.std.proofs.Common.{◌∙◌, sym, ap, arith, add-one}
use Rattle.layout.specs.Table.{next}
use Rattle.layout.proofs.Laws.Chains.{chain_next, chain_first}
use Rattle.layout.proofs.table.nth.Goals as goal

pub loop-init : goal.loop-init
loop-init c = chain_first (next c.args.image.now) c.args.first c.args.k (omega arith)

pub loop-preserved : goal.loop-preserved
loop-preserved c =
    let l = c.loop in
    let v = next c.args.image.now in
    c.entry-b.ensures ∙ ap v l.invariant ∙ sym (chain_next v c.args.first c.args.k l.counter (omega arith)) ∙ rw add-one
