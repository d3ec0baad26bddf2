-- The count so far and that of the marked blocks from b on make the whole.
use mathlib.Core.Path.{◌≡◌}
use Prim.Native.Nat.{◌≤◌, ◌+◌, ◌-◌}
use lib.ListN.{length}
use Rattle.journal.specs.Walks.Saves.{marked_from}
use Rattle.journal.proofs.recording.count_marked.Given as goal

abbrev pub invariant-loop-b : goal.invariant-loop-b
invariant-loop-b l = (l.b ≤ l.e) × (l.a + l.count ≤ l.b) × (l.count + length (marked_from l.marks l.b (l.e - l.b)) ≡ length (marked_from l.marks l.a (l.e - l.a)))
