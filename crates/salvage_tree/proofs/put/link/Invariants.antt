use Rattle.salvage_tree.specs.SalvageTree.{linked}
use Rattle.salvage_tree.proofs.Walks.Puts.{Writing}
use Rattle.salvage_tree.proofs.put.link.Given as goal

abbrev pub invariant-loop-i : goal.invariant-loop-i
invariant-loop-i l = Writing (linked l.initial.image l.blocks) l.image l.blocks l.b l.i
