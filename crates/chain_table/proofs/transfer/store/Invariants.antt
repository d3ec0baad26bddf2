use Prim.Native.Nat.{◌≤◌, ◌<◌, ◌-◌, ◌+◌, ◌*◌, ◌%◌}
use mathlib.Core.Path.{◌≡◌}
use lib.ListN.{length, drop}
use Rattle.layout.specs.Lists.{joined}
use Rattle.layout.specs.Bytes.{bytes4, splice}
use Rattle.chain_table.specs.Numbers.{stored}
use Rattle.chain_table.proofs.transfer.store.Given as goal

abbrev pub invariant-loop-b : goal.invariant-loop-b
invariant-loop-b l =
    (l.b ≤ l.n) × (l.n ≡ length l.numbers) × (length l.image ≡ length l.initial.image) × (l.b < l.n → l.b % 128 ≡ 0) × (stored l.initial.image l.numbers ≡ splice l.image (512 + 4 * l.b) (joined bytes4 (drop l.b l.numbers)))

abbrev pub decreases-loop-b : goal.decreases-loop-b
decreases-loop-b l = l.n - l.b
