use Rattle.std.proofs.Common.{◌-◌}
use Rattle.layout.specs.Table.{next, chain}
use Rattle.salvage.specs.Walks.{unmarked}
use Rattle.salvage.proofs.Walks.Claims.{Unmarking}
use Rattle.salvage.proofs.chains.unmark.Given as goal

abbrev pub invariant-loop : goal.invariant-loop
invariant-loop l = Unmarking l.image l.n (unmarked l.initial.marks (chain (next l.image) l.first l.k)) l.marks l.b (l.k - l.counter)
