use Rattle.salvage_tree.proofs.Walks.Blocks.{Claiming}
use Rattle.salvage_tree.proofs.blocks.claim_blocks.Given as goal

abbrev pub invariant-loop-b : goal.invariant-loop-b
invariant-loop-b l = Claiming l.blocks l.initial.marks l.marks l.b-index
