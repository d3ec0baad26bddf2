use Rattle.std.proofs.Common.{length, rules, tests, arith}
use Rattle.std.proofs.lemmas.Iterator.{YieldsList-from_range}
use Rattle.std.proofs.lemmas.Iterator.Consumers.{YieldsList-from_filter, count_from_yields_List}
use Rattle.salvage_tree.specs.Walks.{hung_here}
use Rattle.salvage_tree.proofs.Walks.Counts.{counted-range}
use Rattle.salvage_tree.proofs.salvage_tree.count_over.Goals as goal

pub returns : goal.returns
unfolding hung_here
returns c =
    let p = hung_here c.args.codes.now c.args.used.now in
    let k = length c.args.codes.now in
    counted-range p k _ (count_from_yields_List _ _ c.count.ensures.ran (YieldsList-from_filter _ p (YieldsList-from_range 0 k k (cc) (omega arith)) c.filter-over.ensures.closure (λ x b q k. search (rules, tests))))
