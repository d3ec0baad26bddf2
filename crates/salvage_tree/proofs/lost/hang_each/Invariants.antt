use Rattle.std.proofs.Common.{◌-◌}
use Rattle.salvage_tree.proofs.Walks.Lost.{Hanging}
use Rattle.salvage_tree.proofs.lost.hang_each.Given as goal

abbrev pub invariant-loop-b : goal.invariant-loop-b
invariant-loop-b l = Hanging l.t l.n l.initial.image l.initial.marks l.initial.codes l.image l.marks l.codes l.b (l.n - l.b)
