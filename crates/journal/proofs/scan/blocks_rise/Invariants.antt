-- What is left to ask of the numbers from the i-th on is what is asked of all.
use mathlib.Core.Path.{◌≡◌}
use Prim.Native.Nat.{◌≤◌, ◌-◌}
use Rattle.layout.specs.Limits.{max_blocks}
use Rattle.journal.specs.Walks.Scanning.{blocks_rise}
use Rattle.journal.proofs.scan.blocks_rise.Given as goal

abbrev pub invariant-loop-i : goal.invariant-loop-i
invariant-loop-i l = (l.i ≤ l.k) × (l.low ≤ max_blocks) × (blocks_rise l.journal l.n l.at 0 0 l.k ≡ blocks_rise l.journal l.n l.at l.low l.i (l.k - l.i))
