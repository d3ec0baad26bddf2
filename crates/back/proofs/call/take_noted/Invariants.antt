-- What is left to take back from here gives what all gives.
use mathlib.Core.Path.{◌≡◌}
use lib.ListN.{length}
use Rattle.journal.specs.Run.{state}
use Rattle.back.proofs.Laws.Turns.{Taking}
use Rattle.back.proofs.call.take_noted.Given as goal

abbrev pub invariant-loop-left : goal.invariant-loop-left
invariant-loop-left l =
    Taking (state l.initial.image l.initial.journal) l.offsets l.count (state l.image l.journal) l.left × (length l.image ≡ length l.initial.image) × (length l.journal ≡ length l.initial.journal)

abbrev pub decreases-loop-left : goal.decreases-loop-left
decreases-loop-left l = l.left
