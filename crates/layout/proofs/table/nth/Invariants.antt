use Rattle.std.proofs.Common.{◌≡◌, get_or}
use Rattle.layout.specs.Table.{next, chain}
use Rattle.layout.proofs.table.nth.Given as goal

abbrev pub invariant-loop : goal.invariant-loop
invariant-loop l = l.b ≡ get_or (chain (next l.image) l.first l.k) l.counter 0
