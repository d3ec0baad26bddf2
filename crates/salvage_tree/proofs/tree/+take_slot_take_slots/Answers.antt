use Prim.Native.Nat.{◌/◌}
use mathlib.Core.Path.{refl, ap, ◌∙◌}
use native.Mathlib.Omega.{arith}
use lib.ListN.{length}
use Rattle.layout.proofs.Laws.Bytes.{length-zeros}
use Rattle.salvage_tree.proofs.Walks.Names.{slot_is}
use Rattle.salvage_tree.proofs.Walks.Levels.{slot-done, slot-deep, slot-dropped, slot-entered, slotting-start, slotting-more, slotting-end, ready-again}
use Rattle.salvage_tree.proofs.tree.+take_slot_take_slots.Goals as goal

pub take_slot-offset_bounds-blocks-k : goal.take_slot-offset_bounds-blocks-k
take_slot-offset_bounds-blocks-k t c = omega (arith, c.requires.1.few, c.requires.3)

pub take_slot-bounds-blocks-k : goal.take_slot-bounds-blocks-k
take_slot-bounds-blocks-k t c = omega (arith, c.requires.3)

pub take_slot-take_entry-requires : goal.take_slot-take_entry-requires
take_slot-take_entry-requires t c = let p = c.requires in (p.0, p.1, p.2, p.3, refl)

pub take_slot-returns-then-not-take_entry : goal.take_slot-returns-then-not-take_entry
take_slot-returns-then-not-take_entry t c = slot-done _ _ _ _ _ _ _ _ _ _ c.take_entry.ensures c.if-not-take_entry.true

pub take_slot-drop_slot-requires : goal.take_slot-drop_slot-requires
take_slot-drop_slot-requires t c = let p = c.requires in let g = p.1.below (c.args.k / 4) (omega (arith, p.3)) in (omega (arith, g, p.0.room.shape), omega (arith, g, p.0.sized))

pub take_slot-returns-then-left-eq0 : goal.take_slot-returns-then-left-eq0
take_slot-returns-then-left-eq0 t c = slot-deep _ _ _ _ _ _ _ _ _ _ c.take_entry.ensures c.if-not-take_entry.false _ (slot_is _ _ _ refl) c.if-left-eq0.true _ _ c.drop_slot.ensures.bytes c.drop_slot.ensures.codes

pub take_slot-bounds-blocks-0 : goal.take_slot-bounds-blocks-0
take_slot-bounds-blocks-0 t c = omega (arith, c.requires.1.some)

pub take_slot-enter-requires : goal.take_slot-enter-requires
take_slot-enter-requires t c = let p = c.requires in let g = p.1.below (c.args.k / 4) (omega (arith, p.3)) in let f = p.1.below 0 p.1.some in (ready-again _ _ _ _ _ _ _ _ p.0 (omega arith) (omega arith) (omega arith), f, g, ap length c.no_blocks-own.ensures ∙ length-zeros 64)

pub take_slot-returns-in_default : goal.take_slot-returns-in_default
take_slot-returns-in_default t c = slot-dropped _ _ _ _ _ _ _ _ _ _ c.take_entry.ensures c.if-not-take_entry.false _ (slot_is _ _ _ refl) (omega arith) _ _ _ _ _ _ c.in_default.ensures.entered refl

pub take_slot-take_slots-requires : goal.take_slot-take_slots-requires
take_slot-take_slots-requires t c = let p = c.requires in (omega (arith, c.requires.0), (ready-again _ _ _ _ _ _ _ _ p.0 (omega arith) (omega arith) (omega arith), c.in-Some.ensures.entered.own c.in-Some.ensures.some, omega (arith, p.4)))

pub take_slot-returns : goal.take_slot-returns
take_slot-returns t c = slot-entered _ _ _ _ _ _ _ _ _ _ c.take_entry.ensures c.if-not-take_entry.false _ (slot_is _ _ _ refl) (omega arith) _ _ _ _ _ _ c.in-Some.ensures.entered c.in-Some.ensures.some _ _ _ c.take_slots.ensures

pub take_slots-overflow_mul-k-end : goal.take_slots-overflow_mul-k-end
take_slots-overflow_mul-k-end t c = omega (arith, c.requires.1.few)

pub take_slots-overflow_sub-k-end : goal.take_slots-overflow_sub-k-end
take_slots-overflow_sub-k-end t c = omega (arith, c.requires.1.some)

pub take_slots-loop-k-init : goal.take_slots-loop-k-init
take_slots-loop-k-init t c = slotting-start _ _ _ _ _

pub take_slots-take_slot-requires : goal.take_slots-take_slot-requires
take_slots-take_slot-requires t c = let l = c.loop-k in let p = c.requires in (omega (arith, c.requires.0), (ready-again _ _ _ _ _ _ _ _ p.0 l.invariant.long l.invariant.marked l.invariant.coded-all, p.1, omega arith, omega arith, p.2))

pub take_slots-loop-k-preserved : goal.take_slots-loop-k-preserved
take_slots-loop-k-preserved t c = slotting-more c.loop-k.invariant (omega arith) _ _ _ (omega arith) (omega arith) (omega arith) c.take_slot.ensures

pub take_slots-shape_of-image : goal.take_slots-shape_of-image
take_slots-shape_of-image t c = c.loop-k.invariant.long

pub take_slots-shape_of-marks : goal.take_slots-shape_of-marks
take_slots-shape_of-marks t c = c.loop-k.invariant.marked

pub take_slots-shape_of-codes : goal.take_slots-shape_of-codes
take_slots-shape_of-codes t c = c.loop-k.invariant.coded-all

pub take_slots-returns : goal.take_slots-returns
take_slots-returns t c = slotting-end c.loop-k.invariant (omega arith)
