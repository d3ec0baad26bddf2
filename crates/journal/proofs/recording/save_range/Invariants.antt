-- What is left to save, saved from here, gives what all gives from the start.
use Prim.Native.Nat.{◌-◌}
use Rattle.journal.specs.Walks.Saves.{marked_from}
use Rattle.journal.proofs.Walks.Saves.{Saving}
use Rattle.journal.proofs.recording.save_range.Given as goal

abbrev pub invariant-loop-b : goal.invariant-loop-b
invariant-loop-b l = Saving l.image l.marks l.initial.journal (marked_from l.marks l.a (l.e - l.a)) l.at l.e l.journal l.p l.b
