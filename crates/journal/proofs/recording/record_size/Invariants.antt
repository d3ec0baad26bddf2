-- The count so far and that of the marked blocks from a on make the whole.
use mathlib.Core.Path.{◌≡◌}
use Prim.Native.Nat.{◌≤◌, ◌+◌, ◌-◌}
use lib.ListN.{length}
use Rattle.journal.specs.Walks.Saves.{marked_from}
use Rattle.journal.proofs.recording.record_size.Given as goal

abbrev pub invariant-loop-a : goal.invariant-loop-a
invariant-loop-a l = (l.a ≤ l.n) × (l.count ≤ l.a) × (l.count + length (marked_from l.marks l.a (l.n - l.a)) ≡ length (marked_from l.marks 0 l.n))

abbrev pub decreases-loop-a : goal.decreases-loop-a
decreases-loop-a l = l.n - l.a
