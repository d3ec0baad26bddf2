use Rattle.std.proofs.Common.{◌-◌}
use Rattle.layout.specs.Table.{next}
use Rattle.volume.proofs.Walks.Notes.{Passed}
use Rattle.volume.proofs.notes.search.Given as goal

abbrev pub invariant-loop-b : goal.invariant-loop-b
invariant-loop-b l = Passed l.notes (next l.image) l.from l.b

abbrev pub decreases-loop-b : goal.decreases-loop-b
decreases-loop-b l = l.n - l.b
