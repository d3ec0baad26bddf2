use Rattle.std.proofs.Common.{◌-◌}
use Rattle.layout.specs.Table.{next}
use Rattle.volume.proofs.Walks.Vacant.{InUse}
use Rattle.volume.proofs.marks.next_free.Given as goal

abbrev pub invariant-loop-b : goal.invariant-loop-b
invariant-loop-b l = InUse (next l.image) l.from l.b

abbrev pub decreases-loop-b : goal.decreases-loop-b
decreases-loop-b l = l.n - l.b
