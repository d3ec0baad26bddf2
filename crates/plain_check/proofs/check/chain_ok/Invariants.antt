use Prim.Native.Nat.{◌-◌, ◌≤◌, ◌<◌}
use mathlib.Core.Bool.{◌&&◌}
use mathlib.Core.Path.{◌≡◌}
use Rattle.layout.specs.Table.{next, ends_after}
use Rattle.plain_check.specs.Walks.{word}
use Rattle.plain_check.proofs.check.chain_ok.Given as goal

abbrev pub invariant-loop-i : goal.invariant-loop-i
invariant-loop-i l = (l.at < word) × (l.i ≤ l.k) × (ends_after (next l.image) l.n l.first l.k ≡ (l.good && ends_after (next l.image) l.n l.at (l.k - l.i)))

abbrev pub decreases-loop-i : goal.decreases-loop-i
decreases-loop-i l = l.k - l.i
