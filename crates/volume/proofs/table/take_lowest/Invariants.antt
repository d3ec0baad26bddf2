use Rattle.std.proofs.Common.{◌-◌}
use Rattle.volume.proofs.Walks.Grow.{Growing}
use Rattle.volume.proofs.table.take_lowest.Given as goal

abbrev pub invariant-loop : goal.invariant-loop
invariant-loop l = Growing l.initial.image l.n l.last l.count l.image l.notes l.end l.from (l.count - l.counter)
