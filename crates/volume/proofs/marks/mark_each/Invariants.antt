use Rattle.std.proofs.Common.{◌-◌}
use Rattle.volume.proofs.Walks.Marks.{Marking}
use Rattle.volume.proofs.marks.mark_each.Given as goal

abbrev pub invariant-loop : goal.invariant-loop
invariant-loop g l = Marking (goal.F-post g l.of) l.image l.n l.first l.k l.initial.marks l.marks l.b (l.k - l.counter)
