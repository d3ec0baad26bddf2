use Rattle.std.proofs.Common.{◌≡◌, ◌+◌, ◌-◌, ◌≤◌, length, get_or}
use Rattle.layout.specs.Walks.Chains.{count_used}
use Rattle.layout.proofs.chains.set_in.Given as goal

abbrev pub invariant-loop-mark : goal.invariant-loop-mark
invariant-loop-mark l = record {
  small : l.count ≤ l.mark-index;
  whole : count_used (λ i. get_or l.marks i 0) 0 (length l.marks) ≡ l.count + count_used (λ i. get_or l.marks i 0) l.mark-index (length l.marks - l.mark-index);
}
