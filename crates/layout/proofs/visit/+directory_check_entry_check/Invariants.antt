-- The one proof of the cycle {directory_check, entry_check}. A directory calls its entries with the levels that are left, an entry its child's directory
-- with one less: the falling number is 2·left + 1 for a directory and 2·left for an entry.
use Rattle.std.proofs.Common.{length, ◌≡◌, ◌+◌, ◌-◌, ◌*◌}
use Rattle.layout.specs.Table.{next, chain}
use Rattle.layout.specs.Walks.Names.{bad_from, NoteRoom}
use Rattle.layout.specs.Walks.Slots.{Place}
use Rattle.layout.specs.Walks.Stages.{walk_slots, walk_child}
use Rattle.layout.proofs.visit.+directory_check_entry_check.Given as goal

abbrev pub invariant-directory_check-loop-k : goal.invariant-directory_check-loop-k
invariant-directory_check-loop-k l =
    (length l.marks ≡ length l.initial.marks) × (Place (chain (next l.image) l.b l.d) l.d l.at l.k (4 * l.d - 1 - l.k)) × (l.bad ≡ bad_from l.image (chain (next l.image) l.b l.d) l.k (4 * l.d - 1 - l.k)) ×
    (walk_slots (walk_child l.left l.image l.n l.b) l.image (chain (next l.image) l.b l.d) 1 (4 * l.d - 2) l.initial.marks
    ≡ walk_slots (walk_child l.left l.image l.n l.b) l.image (chain (next l.image) l.b l.d) l.k (4 * l.d - 1 - l.k) l.marks) × (NoteRoom l.prints l.places l.seen)

abbrev pub decreases-directory_check : goal.decreases-directory_check
decreases-directory_check l = 2 * l.left + 1

abbrev pub decreases-entry_check : goal.decreases-entry_check
decreases-entry_check l = 2 * l.left
