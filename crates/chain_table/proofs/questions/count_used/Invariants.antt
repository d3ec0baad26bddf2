-- The count so far, and that of the entries from here on, make the whole.
use Prim.Native.Nat.{◌≤◌, ◌+◌, ◌-◌}
use mathlib.Core.Path.{◌≡◌}
use lib.ListN.{length}
use Rattle.layout.specs.Walks.Chains.{count_used}
use Rattle.chain_table.specs.Numbers.{value_in}
use Rattle.chain_table.proofs.questions.count_used.Given as goal

abbrev pub invariant-loop-number : goal.invariant-loop-number
invariant-loop-number l =
    (l.count ≤ l.number-index) × (count_used (value_in l.numbers) 0 (length l.numbers) ≡ l.count + count_used (value_in l.numbers) l.number-index (length l.numbers - l.number-index))
