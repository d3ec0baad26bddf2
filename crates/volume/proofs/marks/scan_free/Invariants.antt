use Rattle.layout.specs.Table.{next}
use Rattle.volume.proofs.Walks.Vacant.{InUse}
use Rattle.volume.proofs.marks.scan_free.Given as goal

abbrev pub invariant-loop-b : goal.invariant-loop-b
invariant-loop-b l = InUse (next l.image) l.from l.b
