use Rattle.std.proofs.Common.{◌+◌, length}
use Rattle.volume.proofs.Walks.Put.{Putting}
use Rattle.volume.proofs.data.put_data.Given as goal

abbrev pub invariant-loop-rest : goal.invariant-loop-rest
invariant-loop-rest l = Putting l.initial.image l.n l.first l.k l.offset l.bytes l.image l.b l.o l.rest

abbrev pub decreases-loop-rest : goal.decreases-loop-rest
decreases-loop-rest l = l.o + length l.rest
