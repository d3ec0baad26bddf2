use Prim.Native.Nat.{◌+◌, ◌≤◌, ◌-◌}
use mathlib.Core.Path.{◌≡◌}
use lib.ListN.{length, drop}
use Rattle.layout.specs.Paths.{cut, last_part}
use Rattle.layout.specs.Walks.Paths.{first_length}
use Rattle.layout.proofs.path.last_start.Given as goal

abbrev pub invariant-loop-end : goal.invariant-loop-end
invariant-loop-end l = (l.at ≤ l.end) × (l.end ≤ length l.rest) × (l.end ≡ l.at + first_length (drop l.at l.rest)) × (last_part (cut l.rest) ≡ last_part (cut (drop l.at l.rest)))

abbrev pub decreases-loop-end : goal.decreases-loop-end
decreases-loop-end l = length l.rest - l.end
