-- The one proof of the cycle {take_slots, take_slot}. A directory calls its slots with the levels that are left, a slot its child with one less: the falling number is
-- 2·left + 1 for a directory and 2·left for a slot.
use Prim.Native.Nat.{◌+◌, ◌*◌}
use Rattle.salvage_tree.proofs.Walks.Levels.{Slotting}
use Rattle.salvage_tree.proofs.tree.+take_slot_take_slots.Given as goal

abbrev pub invariant-take_slots-loop-k : goal.invariant-take_slots-loop-k
invariant-take_slots-loop-k l = Slotting l.initial.image l.blocks l.left l.initial.marks l.initial.codes l.image l.marks l.codes l.k

abbrev pub decreases-take_slot : goal.decreases-take_slot
decreases-take_slot l = 2 * l.left

abbrev pub decreases-take_slots : goal.decreases-take_slots
decreases-take_slots l = 2 * l.left + 1
