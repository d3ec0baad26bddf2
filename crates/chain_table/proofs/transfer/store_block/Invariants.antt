use Prim.Native.Nat.{◌≤◌, ◌*◌}
use mathlib.Core.Path.{◌≡◌}
use lib.ListN.{length, drop}
use Rattle.layout.specs.Lists.{joined}
use Rattle.layout.specs.Bytes.{bytes4, splice}
use Rattle.chain_table.proofs.transfer.store_block.Given as goal

abbrev pub invariant-loop-j : goal.invariant-loop-j
invariant-loop-j l = (l.j ≤ l.j-end) × (l.j-end ≡ length l.numbers) × (length l.block ≡ length l.initial.block) × (splice l.initial.block 0 (joined bytes4 l.numbers) ≡ splice l.block (4 * l.j) (joined bytes4 (drop l.j l.numbers)))
