use Prim.Native.Nat.{◌-◌, ◌≤◌, ◌<◌}
use mathlib.Core.Path.{◌≡◌}
use Rattle.plain_check.specs.Walks.{word, new_from}
use Rattle.plain_check.proofs.check.new_blocks.Given as goal

abbrev pub invariant-loop-i : goal.invariant-loop-i
invariant-loop-i l = (l.at < word) × (l.i ≤ l.k) × (new_from l.image l.met l.b l.k ≡ new_from l.image l.met l.at (l.k - l.i))

abbrev pub decreases-loop-i : goal.decreases-loop-i
decreases-loop-i l = l.k - l.i
