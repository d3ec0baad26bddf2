use Prim.Native.Nat.{◌-◌, ◌≤◌, ◌<◌}
use mathlib.Core.Path.{◌≡◌}
use Rattle.layout.specs.Table.{next}
use Rattle.plain_check.specs.Plain.{holds}
use Rattle.plain_check.specs.Walks.{word}
use Rattle.plain_check.proofs.check.holds.Given as goal

abbrev pub invariant-loop-i : goal.invariant-loop-i
invariant-loop-i l = (l.at < word) × (l.i ≤ l.k) × (holds (next l.image) l.b l.first l.k ≡ holds (next l.image) l.b l.at (l.k - l.i))

abbrev pub decreases-loop-i : goal.decreases-loop-i
decreases-loop-i l = l.k - l.i
