use Prim.Native.Nat.{◌-◌, ◌≤◌}
use mathlib.Core.Path.{◌≡◌}
use Rattle.layout.specs.Lists.{interval, every}
use Rattle.layout.specs.Geometry.{root_block}
use Rattle.plain_check.specs.Plain.{counted}
use Rattle.plain_check.proofs.check.all_counted.Given as goal

abbrev pub invariant-loop-b : goal.invariant-loop-b
invariant-loop-b l = (l.root ≤ l.b-counter) × (every (counted l.image) (interval (root_block l.n) (l.n - root_block l.n)) ≡ every (counted l.image) (interval l.b-counter (l.n - l.b-counter)))

abbrev pub decreases-loop-b : goal.decreases-loop-b
decreases-loop-b l = l.n - l.b-counter
