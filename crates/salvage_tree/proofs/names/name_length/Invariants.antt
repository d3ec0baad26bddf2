use Rattle.salvage_tree.proofs.Walks.Names.{Measuring}
use Rattle.salvage_tree.proofs.names.name_length.Given as goal

abbrev pub invariant-loop-i : goal.invariant-loop-i
invariant-loop-i l = Measuring l.field l.i
