use Prim.Native.Nat.{◌+◌, ◌≤◌, ◌-◌}
use mathlib.Core.Path.{◌≡◌}
use lib.ListN.{length, drop}
use Rattle.layout.specs.Walks.Paths.{first_length, good_from}
use Rattle.layout.proofs.path.count_parts.Given as goal

abbrev pub invariant-loop-end : goal.invariant-loop-end
invariant-loop-end l = (l.at ≤ l.end) × (l.end ≤ length l.rest) × (l.end ≡ l.at + first_length (drop l.at l.rest)) × (l.count ≤ l.at) × (good_from 0 l.rest ≡ good_from l.count (drop l.at l.rest))

abbrev pub decreases-loop-end : goal.decreases-loop-end
decreases-loop-end l = length l.rest - l.end
