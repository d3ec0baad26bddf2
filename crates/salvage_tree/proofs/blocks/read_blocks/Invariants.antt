use Rattle.salvage_tree.proofs.Walks.Blocks.{Reading}
use Rattle.salvage_tree.proofs.blocks.read_blocks.Given as goal

abbrev pub invariant-loop-k : goal.invariant-loop-k
invariant-loop-k l = (Reading l.image l.first l.blocks l.b l.k)
