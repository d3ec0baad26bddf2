use Rattle.salvage_tree.proofs.Walks.Rest.{Noting}
use Rattle.salvage_tree.proofs.rest.note_freed.Given as goal

abbrev pub invariant-loop-b : goal.invariant-loop-b
invariant-loop-b l = Noting l.image l.marks l.low l.n l.initial.codes l.codes l.b
