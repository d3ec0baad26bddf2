use Rattle.std.proofs.Common.{◌≡◌, ◌-◌}
use Rattle.layout.specs.Table.{next}
use Rattle.layout.specs.Walks.Chains.{walk, follow}
use Rattle.layout.proofs.table.follow.Given as goal

abbrev pub invariant-loop : goal.invariant-loop
invariant-loop l = follow (next l.image) l.n l.k l.first l.initial.marks ≡ walk (next l.image) l.n (l.k - l.counter) l.b l.marks
