use Prim.Native.Nat.{◌-◌, ◌≤◌}
use mathlib.Core.Path.{◌≡◌}
use lib.Dec.{eqb}
use Rattle.layout.specs.Lists.{interval, every}
use Rattle.layout.specs.Table.{next}
use Rattle.plain_check.proofs.check.entries_are.Given as goal

abbrev pub invariant-loop-x : goal.invariant-loop-x
invariant-loop-x l = (l.b ≤ l.x) × (every (λ x. eqb (next l.image x) l.value) (interval l.b (l.end - l.b)) ≡ every (λ x. eqb (next l.image x) l.value) (interval l.x (l.end - l.x)))

abbrev pub decreases-loop-x : goal.decreases-loop-x
decreases-loop-x l = l.end - l.x
