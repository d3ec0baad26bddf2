use mathlib.Core.Bool.{true, false}
use mathlib.Core.Path.{◌≡◌, refl, sym, ◌∙◌}
use native.Mathlib.Omega.{arith}
use borrow.Author.Tests.{not-true, not-false}
use Rattle.layout.specs.Table.{next}
use Rattle.layout.specs.Walks.Slots.{entry_at}
use Rattle.layout.proofs.Walks.Fingerprints.{slot-in, noted-none, filtered-none, bad_from-end, bad_from-wrong, bad_from-taken, bad_from-next}
use Rattle.layout.proofs.Walks.Slots.{place-below, place-entry, place-then, place-first}
use Rattle.layout.proofs.names.bad_slot.Goals as goal

pub overflow_add-mark : goal.overflow_add-mark
overflow_add-mark c = omega arith

pub overflow_cast-mark : goal.overflow_cast-mark
overflow_cast-mark c = omega arith

pub overflow_mul-left : goal.overflow_mul-left
overflow_mul-left c = omega arith

pub overflow_sub-left : goal.overflow_sub-left
overflow_sub-left c = omega arith

pub loop-left-init : goal.loop-left-init
loop-left-init c =
    let a = c.args in
    let p = c.requires in
    (omega arith, place-first (next a.image.now) a.first a.d (omega arith), noted-none _ _ _ _ p.1.prints-room p.1.places-room, filtered-none _ _ _ _ p.1.seen-room, refl)

pub slot_ok_at-requires : goal.slot_ok_at-requires
slot_ok_at-requires c =
    let l = c.loop-left in
    let h = place-below _ _ _ _ _ _ c.requires.0.blocks l.invariant.1 in
    omega arith

pub shape_of-prints-then-not-slot_ok_at : goal.shape_of-prints-then-not-slot_ok_at
shape_of-prints-then-not-slot_ok_at c = omega (arith, c.loop-left.invariant.2.prints-room, c.requires.1.prints-room)

pub shape_of-places-then-not-slot_ok_at : goal.shape_of-places-then-not-slot_ok_at
shape_of-places-then-not-slot_ok_at c = omega (arith, c.loop-left.invariant.2.places-room, c.requires.1.places-room)

pub shape_of-seen-then-not-slot_ok_at : goal.shape_of-seen-then-not-slot_ok_at
shape_of-seen-then-not-slot_ok_at c = omega (arith, c.loop-left.invariant.3.room, c.requires.1.seen-room)

pub returns-then-not-slot_ok_at : goal.returns-then-not-slot_ok_at
returns-then-not-slot_ok_at c =
    let l = c.loop-left in
    let t : c.slot_ok_at.result ≡ false = not-true _ c.if-not-slot_ok_at.true-raw in
    sym (l.invariant.4 ∙ bad_from-wrong _ _ _ _ (entry_at l.b l.k) (place-entry _ _ _ _ _ l.invariant.1) (omega arith) (sym t ∙ c.slot_ok_at.ensures))

pub is_new-requires : goal.is_new-requires
is_new-requires c =
    let l = c.loop-left in
    let t : c.slot_ok_at.result ≡ true = not-false _ c.if-not-slot_ok_at.false-raw in
    (l.invariant.2, l.invariant.3, slot-in _ c.args.n _ _ _ _ l.left c.requires.0 l.invariant.1 l.invariant.0 (omega arith), sym c.slot_ok_at.ensures ∙ t)

pub shape_of-prints-then-not-is_new : goal.shape_of-prints-then-not-is_new
shape_of-prints-then-not-is_new c = omega (arith, c.is_new.ensures.1.prints-room, c.requires.1.prints-room)

pub shape_of-places-then-not-is_new : goal.shape_of-places-then-not-is_new
shape_of-places-then-not-is_new c = omega (arith, c.is_new.ensures.1.places-room, c.requires.1.places-room)

pub shape_of-seen-then-not-is_new : goal.shape_of-seen-then-not-is_new
shape_of-seen-then-not-is_new c = omega (arith, c.is_new.ensures.2.room, c.requires.1.seen-room)

pub returns-then-not-is_new : goal.returns-then-not-is_new
returns-then-not-is_new c =
    let l = c.loop-left in
    let t : c.slot_ok_at.result ≡ true = not-false _ c.if-not-slot_ok_at.false-raw in
    let u : c.is_new.result ≡ false = not-true _ c.if-not-is_new.true-raw in
    sym (l.invariant.4 ∙ bad_from-taken _ _ _ _ (entry_at l.b l.k) (place-entry _ _ _ _ _ l.invariant.1) (omega arith) (sym t ∙ c.slot_ok_at.ensures) (sym u ∙ c.is_new.ensures.0))

pub overflow_add-k : goal.overflow_add-k
overflow_add-k c = omega (arith, c.loop-left.invariant.1.left, c.requires.0.blocks)

pub following-b-requires : goal.following-b-requires
following-b-requires c =
    let l = c.loop-left in
    let p = c.requires.0 in
    let h = place-below _ _ _ _ _ _ p.blocks l.invariant.1 in
    omega (arith, h, p.shape)

pub overflow_sub-left-in-loop-left : goal.overflow_sub-left-in-loop-left
overflow_sub-left-in-loop-left c = omega arith

pub loop-left-smaller : goal.loop-left-smaller
loop-left-smaller c = omega arith

pub loop-left-preserved : goal.loop-left-preserved
loop-left-preserved c =
    let l = c.loop-left in
    let t : c.slot_ok_at.result ≡ true = not-false _ c.if-not-slot_ok_at.false-raw in
    let u : c.is_new.result ≡ true = not-false _ c.if-not-is_new.false-raw in
    let at = place-entry _ _ _ _ _ l.invariant.1 in (
      omega arith,
      place-then _ _ _ _ _ _ _ l.invariant.1 (omega arith) c.following-b.ensures,
      c.is_new.ensures.1,
      c.is_new.ensures.2,
      l.invariant.4 ∙ bad_from-next _ _ _ _ (entry_at l.b l.k) at (omega arith) (sym t ∙ c.slot_ok_at.ensures) (sym u ∙ c.is_new.ensures.0),
    )

pub shape_of-prints : goal.shape_of-prints
shape_of-prints c = omega (arith, c.loop-left.invariant.2.prints-room, c.requires.1.prints-room)

pub shape_of-places : goal.shape_of-places
shape_of-places c = omega (arith, c.loop-left.invariant.2.places-room, c.requires.1.places-room)

pub shape_of-seen : goal.shape_of-seen
shape_of-seen c = omega (arith, c.loop-left.invariant.3.room, c.requires.1.seen-room)

pub returns : goal.returns
returns c =
    let l = c.loop-left in
    bad_from-end _ _ _ _ (omega arith) ∙ sym l.invariant.4
