use Rattle.layout.proofs.Walks.Content.{Reading}
use Rattle.layout.proofs.content.read_chain.Given as goal

abbrev pub invariant-loop-rest : goal.invariant-loop-rest
invariant-loop-rest l = Reading l.img l.n l.k l.first l.offset l.initial.buf l.buf l.b l.left l.o l.p l.rest

abbrev pub decreases-loop-rest : goal.decreases-loop-rest
decreases-loop-rest l = l.left
