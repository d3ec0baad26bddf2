use mathlib.Core.Path.{◌≡◌}
use Prim.Native.Nat.{◌-◌, ◌≤◌}
use Rattle.write_list.specs.List.{max_list}
use lib.ListN.{length}
use Rattle.journal.specs.Run.{state}
use Rattle.write_list.proofs.Laws.Turns.{Midway}
use Rattle.write_list.proofs.call.write_items.Given as goal

abbrev pub invariant-loop-at : goal.invariant-loop-at
invariant-loop-at l =
    Midway (state l.initial.image l.initial.journal) l.list (state l.image l.journal) l.done l.at × (length l.image ≡ length l.initial.image) × (length l.journal ≡ length l.initial.journal) × (length l.list ≤ max_list)

abbrev pub decreases-loop-at : goal.decreases-loop-at
decreases-loop-at l = length l.list - l.at
