use Prim.Native.Nat.{◌+◌, ◌-◌, ◌≤◌}
use mathlib.Core.Path.{◌≡◌}
use lib.Dec.{eqb}
use lib.ListN.{get_or}
use Rattle.layout.specs.Lists.{interval, every}
use Rattle.plain_check.specs.Walks.{same_field}
use Rattle.plain_check.proofs.check.same_name.Given as goal

abbrev pub invariant-loop-i : goal.invariant-loop-i
invariant-loop-i l = (48 ≤ l.i) × (l.i ≤ 128) × (same_field l.image l.a l.b ≡ every (λ i. eqb (get_or l.image (l.a + i) 0) (get_or l.image (l.b + i) 0)) (interval l.i (128 - l.i)))

abbrev pub decreases-loop-i : goal.decreases-loop-i
decreases-loop-i l = 128 - l.i
