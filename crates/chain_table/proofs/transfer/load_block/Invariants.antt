use Prim.Native.Nat.{ℕ, ◌≤◌, ◌<◌}
use mathlib.Core.Path.{◌≡◌}
use lib.ListN.{length}
use Rattle.layout.specs.Walks.Chains.{entry_in}
use Rattle.chain_table.specs.Numbers.{value_in}
use Rattle.chain_table.proofs.transfer.load_block.Given as goal

abbrev pub invariant-loop-j : goal.invariant-loop-j
invariant-loop-j l = (l.j ≤ l.j-end) × (l.j-end ≡ length l.initial.numbers) × (length l.numbers ≡ length l.initial.numbers) × ((i : ℕ) → i < l.j → value_in l.numbers i ≡ entry_in l.block i)
