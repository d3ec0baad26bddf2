use Prim.Native.Nat.{◌-◌, ◌≤◌, ◌<◌}
use mathlib.Core.Path.{◌≡◌}
use Rattle.layout.specs.Table.{next}
use Rattle.layout.proofs.Laws.Chains.{nth}
use Rattle.plain_check.specs.Walks.{word}
use Rattle.plain_check.proofs.check.last_block.Given as goal

abbrev pub invariant-loop-i : goal.invariant-loop-i
invariant-loop-i l = (l.at < word) × (1 ≤ l.i) × (l.i ≤ l.d) × (l.at ≡ nth (next l.image) (l.i - 1) l.first)

abbrev pub decreases-loop-i : goal.decreases-loop-i
decreases-loop-i l = l.d - l.i
