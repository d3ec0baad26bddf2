-- What is ahead of here, with what was met, is the whole journal.
use mathlib.Core.Path.{◌≡◌}
use Prim.Native.Nat.{◌-◌}
use Rattle.journal.specs.Journal.{used as usedLength}
use Rattle.back.proofs.Laws.Turns.{Tallying}
use Rattle.back.proofs.walk.tally.Given as goal

abbrev pub invariant-loop-at : goal.invariant-loop-at
invariant-loop-at l = Tallying l.journal l.count l.last l.at × (l.used ≡ usedLength l.journal)

abbrev pub decreases-loop-at : goal.decreases-loop-at
decreases-loop-at l = l.used - l.at
