use Prim.Native.Nat.{◌+◌, ◌-◌, ◌≤◌}
use mathlib.Core.Path.{◌≡◌}
use Rattle.layout.specs.Table.{next, occupied}
use Rattle.plain_check.proofs.Walks.Stages.{used_from}
use Rattle.plain_check.proofs.check.counts_ok.Given as goal

abbrev pub invariant-loop-b : goal.invariant-loop-b
invariant-loop-b l = (l.b ≤ l.n) × (l.used ≤ l.b) × (occupied (next l.image) l.n ≡ l.used + used_from l.image l.b l.n)

abbrev pub decreases-loop-b : goal.decreases-loop-b
decreases-loop-b l = l.n - l.b
