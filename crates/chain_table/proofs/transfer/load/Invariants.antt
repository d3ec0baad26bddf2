use Prim.Native.Nat.{ℕ, ◌≤◌, ◌<◌, ◌-◌, ◌%◌}
use mathlib.Core.Path.{◌≡◌}
use lib.ListN.{length}
use Rattle.layout.specs.Table.{next}
use Rattle.chain_table.specs.Numbers.{value_in}
use Rattle.chain_table.proofs.transfer.load.Given as goal

abbrev pub invariant-loop-b : goal.invariant-loop-b
invariant-loop-b l = (l.b ≤ l.n) × (l.n ≡ length l.initial.numbers) × (length l.numbers ≡ length l.initial.numbers) × (l.b < l.n → l.b % 128 ≡ 0) × ((i : ℕ) → i < l.b → value_in l.numbers i ≡ next l.image i)

abbrev pub decreases-loop-b : goal.decreases-loop-b
decreases-loop-b l = l.n - l.b
