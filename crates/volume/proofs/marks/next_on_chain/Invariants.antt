use Rattle.std.proofs.Common.{◌-◌}
use Rattle.layout.specs.Table.{next, chain}
use Rattle.volume.proofs.Walks.Vacant.{Nearing}
use Rattle.volume.proofs.marks.next_on_chain.Given as goal

abbrev pub invariant-loop : goal.invariant-loop
invariant-loop l = Nearing l.image l.n l.from (chain (next l.image) l.first l.k) l.lowest l.b (l.k - l.counter)
