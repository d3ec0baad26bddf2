-- What is left to save, saved from here, gives what all gives from the start.
use Prim.Native.Nat.{◌-◌}
use Rattle.journal.specs.Walks.Saves.{marked_from}
use Rattle.journal.proofs.Walks.Saves.{Saving}
use Rattle.journal.proofs.recording.save_blocks.Given as goal

abbrev pub invariant-loop-b : goal.invariant-loop-b
invariant-loop-b l = Saving l.image l.marks l.initial.journal (marked_from l.marks 0 l.n) l.at l.n l.journal l.p l.b

abbrev pub decreases-loop-b : goal.decreases-loop-b
decreases-loop-b l = l.n - l.b
