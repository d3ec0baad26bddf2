use Rattle.std.proofs.Common.{◌+◌, ◌-◌}
use Rattle.salvage.proofs.Walks.Table.{Freeing}
use Rattle.salvage.proofs.table.free_entries.Given as goal

abbrev pub invariant-loop-b : goal.invariant-loop-b
invariant-loop-b l = Freeing l.initial.image l.marks l.from l.k l.image l.b (l.from + l.k - l.b)
