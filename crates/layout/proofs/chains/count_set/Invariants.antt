use Rattle.std.proofs.Common.{◌≡◌, ◌+◌, ◌-◌, ◌*◌, ◌≤◌, get_or}
use Rattle.layout.specs.Walks.Chains.{count_used}
use Rattle.layout.proofs.chains.count_set.Given as goal

abbrev pub invariant-loop-i : goal.invariant-loop-i
invariant-loop-i l = record {
  small : l.count ≤ 128 * l.i;
  whole : count_used (λ b. get_or l.marks b 0) 0 (128 * l.t) ≡ l.count + count_used (λ b. get_or l.marks b 0) (128 * l.i) (128 * (l.t - l.i));
}
