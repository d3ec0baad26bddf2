use Rattle.layout.specs.Table.{next}
use Rattle.salvage.proofs.Walks.Claims.{Walking}
use Rattle.salvage.proofs.chains.walk.Given as goal

abbrev pub invariant-loop-met : goal.invariant-loop-met
invariant-loop-met l = Walking (next l.image) l.n l.first l.initial.marks l.marks l.met l.b
