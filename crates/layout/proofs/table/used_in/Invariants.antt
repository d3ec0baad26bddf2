use Rattle.std.proofs.Common.{◌≡◌, ◌+◌, ◌-◌, ◌≤◌}
use Rattle.layout.specs.Walks.Chains.{count_used, entry_in}
use Rattle.layout.proofs.table.used_in.Given as goal

abbrev pub invariant-loop-at : goal.invariant-loop-at
invariant-loop-at l = record {
  small : l.count + l.j ≤ l.at;
  whole : count_used (entry_in l.block) l.j l.k ≡ l.count + count_used (entry_in l.block) l.at (l.j + l.k - l.at);
}
