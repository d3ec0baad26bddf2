use Prim.Native.Nat.{◌-◌, ◌≤◌}
use mathlib.Core.Path.{◌≡◌}
use Rattle.layout.specs.Directory.{directory}
use Rattle.plain_check.specs.Walks.{new_field}
use Rattle.plain_check.proofs.Walks.Slots.{Place}
use Rattle.plain_check.proofs.Walks.Stage5.{others}
use Rattle.plain_check.proofs.check.new_name.Given as goal

abbrev pub invariant-loop-j : goal.invariant-loop-j
invariant-loop-j l = (2 ≤ l.j) × (l.j ≤ l.k) × Place l.image l.d l.o (l.j - 2) × (new_field l.image (directory l.image l.d) l.e (l.k - 1) ≡ others l.image (directory l.image l.d) l.e l.k l.j)

abbrev pub decreases-loop-j : goal.decreases-loop-j
decreases-loop-j l = l.k - l.j
