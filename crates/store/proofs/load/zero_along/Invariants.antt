use Rattle.store.proofs.Walks.Zeros.{Zeroing}
use Rattle.store.proofs.load.zero_along.Given as goal

abbrev pub invariant-loop-rest : goal.invariant-loop-rest
invariant-loop-rest l = Zeroing l.image l.n l.k l.first l.offset l.count l.b l.left l.o l.rest

abbrev pub decreases-loop-rest : goal.decreases-loop-rest
decreases-loop-rest l = l.left
