use Rattle.salvage_tree.proofs.Walks.Puts.{LinksOn}
use Rattle.salvage_tree.proofs.put.links_right.Given as goal

abbrev pub invariant-loop-i : goal.invariant-loop-i
invariant-loop-i l = LinksOn l.image l.blocks l.b l.i
