use Rattle.std.proofs.Common.{rules, tests}
use Rattle.std.proofs.lemmas.Iterator.{YieldsList-from_slice}
use Rattle.std.proofs.lemmas.Iterator.Consumers.{YieldsList-from_filter, count_from_yields_List}
use Rattle.layout.specs.Lists.{within}
use Rattle.salvage_tree.specs.SalvageTree.{number}
use Rattle.salvage_tree.proofs.Walks.Counts.{counted}
use Rattle.salvage_tree.proofs.salvage_tree.count_codes.Goals as goal

pub returns : goal.returns
unfolding number
returns c =
    let p = within c.args.lo c.args.hi in
    counted p c.args.codes.now _ (count_from_yields_List _ _ c.count.ensures.ran (YieldsList-from_filter _ p (YieldsList-from_slice c.args.codes.now cc) c.filter-from_to.ensures.closure (λ x b q k. search (rules, tests))))
