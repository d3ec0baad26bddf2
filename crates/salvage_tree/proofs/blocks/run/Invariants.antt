use Rattle.salvage_tree.proofs.Walks.Blocks.{Running}
use Rattle.salvage_tree.proofs.blocks.run.Given as goal

abbrev pub invariant-loop-k : goal.invariant-loop-k
invariant-loop-k l = Running l.image l.n l.b l.marks l.blocks l.k l.c
