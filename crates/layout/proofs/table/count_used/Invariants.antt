use Rattle.std.proofs.Common.{◌≡◌, ◌+◌, ◌-◌, ◌≤◌}
use Rattle.layout.specs.Table.{next}
use Rattle.layout.specs.Walks.Chains.{count_used}
use Rattle.layout.proofs.table.count_used.Given as goal

abbrev pub invariant-loop-b : goal.invariant-loop-b
invariant-loop-b l = record {
  within : l.b ≤ l.n;
  small : l.count ≤ l.b;
  whole : count_used (next l.image) 0 l.n ≡ l.count + count_used (next l.image) l.b (l.n - l.b);
}

abbrev pub decreases-loop-b : goal.decreases-loop-b
decreases-loop-b l = l.n - l.b
