-- What is left to take back from here, with so many done, gives what all gives.
use mathlib.Core.Path.{◌≡◌}
use Prim.Native.Nat.{◌≤◌}
use lib.ListN.{length}
use Rattle.journal.specs.Run.{state}
use Rattle.back.proofs.Laws.Turns.{Going}
use Rattle.back.proofs.call.take_with.Given as goal

abbrev pub invariant-loop-used : goal.invariant-loop-used
invariant-loop-used l =
    Going (state l.initial.image l.initial.journal) l.mark (state l.image l.journal) l.used l.done
    × (length l.image ≡ length l.initial.image) × (length l.journal ≡ length l.initial.journal) × (length l.offsets ≡ length l.initial.offsets) × (1 ≤ length l.initial.offsets)

abbrev pub decreases-loop-used : goal.decreases-loop-used
decreases-loop-used l = l.used
