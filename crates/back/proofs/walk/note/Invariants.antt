-- The numbers noted, and what is ahead of here, are the last records. A turn moves on, or begins the numbers anew.
use mathlib.Core.Path.{◌≡◌}
use Prim.Native.Nat.{◌+◌, ◌-◌, ◌≤◌}
use lib.ListN.{length}
use Rattle.journal.specs.Journal.{used as usedLength}
use Rattle.back.proofs.Laws.Turns.{Noting}
use Rattle.back.proofs.walk.note.Given as goal

abbrev pub invariant-loop-at : goal.invariant-loop-at
invariant-loop-at l =
    Noting l.journal l.mark l.offsets l.i l.at × (l.used ≡ usedLength l.journal) × (length l.offsets ≡ length l.initial.offsets) × (1 ≤ length l.initial.offsets)

abbrev pub decreases-loop-at : goal.decreases-loop-at
decreases-loop-at l = (l.used - l.at) + l.i
