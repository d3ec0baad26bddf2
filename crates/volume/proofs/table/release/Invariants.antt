use Rattle.std.proofs.Common.{◌-◌}
use Rattle.volume.proofs.Walks.Release.{Releasing}
use Rattle.volume.proofs.table.release.Given as goal

abbrev pub invariant-loop : goal.invariant-loop
invariant-loop l = Releasing l.initial.image l.n l.first l.k l.image l.b (l.k - l.counter)
