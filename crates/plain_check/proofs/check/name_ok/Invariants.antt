use Prim.Native.Nat.{◌+◌, ◌-◌, ◌≤◌}
use mathlib.Core.Bool.{◌&&◌}
use mathlib.Core.Path.{◌≡◌}
use Rattle.layout.specs.Lists.{interval, every}
use Rattle.layout.specs.Directory.{name_ok}
use Rattle.plain_check.proofs.Walks.Names.{follows}
use Rattle.plain_check.proofs.check.name_ok.Given as goal

abbrev pub invariant-loop-i : goal.invariant-loop-i
invariant-loop-i l = (l.e + 48 ≤ l.i) × (l.i ≤ l.i-end) × (l.i-end ≡ l.e + 127) × (name_ok l.image l.e ≡ (l.good && every (follows l.image) (interval l.i (l.i-end - l.i))))

abbrev pub decreases-loop-i : goal.decreases-loop-i
decreases-loop-i l = l.i-end - l.i
