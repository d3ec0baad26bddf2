use Rattle.std.proofs.Common.{◌≡◌, ◌+◌, ◌-◌, ◌*◌, refl, ap, subst, ◌∙◌, arith}
use Rattle.layout.specs.Table.{next, chain}
use Rattle.layout.specs.Walks.Slots.{Place, slot_from, entry_at}
use Rattle.layout.proofs.Walks.Slots.{place-below, place-entry, place-then, place-first, slot_from-end, slot_from-here, slot_from-next, stands_here, stands-none}
use Rattle.volume.specs.Walks.Moves.{slot_open}
use Rattle.volume.proofs.Walks.Move.{open-from, slot-open}
use Rattle.volume.proofs.moving.find_open.Goals as goal

pub loop-slot-init : goal.loop-slot-init
loop-slot-init c =
    let a = c.args in
    let ds = chain (next a.image.now) a.first a.d in
    let e : 4 * a.d - 2 ≡ 4 * a.d - 1 - 1 = omega arith in
    record {
      place = subst (Place ds a.d a.first 1) e (place-first (next a.image.now) a.first a.d (omega arith));
      same = ap (slot_from (slot_open a.image.now a.own) ds 1) e;
    }

pub overflow_mul-at : goal.overflow_mul-at
overflow_mul-at c =
    let h = place-below _ _ _ _ _ _ c.requires.blocks c.loop-slot.invariant.place in
    omega arith

pub overflow_add-at : goal.overflow_add-at
overflow_add-at c =
    let h = place-below _ _ _ _ _ _ c.requires.blocks c.loop-slot.invariant.place in
    omega arith

pub type_at-requires : goal.type_at-requires
type_at-requires c =
    let h = place-below _ _ _ _ _ _ c.requires.blocks c.loop-slot.invariant.place in
    omega arith

pub following-b-requires : goal.following-b-requires
following-b-requires c =
    let h = place-below _ _ _ _ _ _ c.requires.blocks c.loop-slot.invariant.place in
    omega arith

pub returns-then-type_at-at : goal.returns-then-type_at-at
returns-then-type_at-at c =
    let l = c.loop-slot in
    let a = c.args in
    let bs = c.requires.blocks in
    let same = open-from a.image.now _ a.own a.d bs.size ∙ l.invariant.same ∙ slot_from-here (slot_open a.image.now a.own) _ _ _ (entry_at l.b l.slot)
    (place-entry _ _ _ _ _ l.invariant.place) (omega arith) (slot-open a.image.now (entry_at l.b l.slot) a.own _ _ c.type_at.ensures refl _ c.if-type_at-at.true) in
    (stands_here _ _ a.d _ _ _ _ bs l.invariant.place (omega arith) same, λ z. omega arith)

pub loop-slot-preserved : goal.loop-slot-preserved
loop-slot-preserved c =
    let l = c.loop-slot in
    let a = c.args in
    let i = l.invariant in
    let ds = chain (next a.image.now) a.first a.d in
    let test = slot_open a.image.now a.own in
    let e : 4 * a.d - 1 - l.slot - 1 ≡ 4 * a.d - 1 - (l.slot + 1) = omega arith in
    record {
      place = subst (Place ds a.d c.following-b.result (l.slot + 1)) e (place-then _ _ _ _ _ _ _ i.place (omega arith) c.following-b.ensures);
      same = i.same
          ∙ slot_from-next test _ _ _ (entry_at l.b l.slot) (place-entry _ _ _ _ _ i.place) (omega arith) (slot-open a.image.now (entry_at l.b l.slot) a.own _ _ c.type_at.ensures refl _ c.if-type_at-at.false)
          ∙ ap (slot_from test ds (l.slot + 1)) e;
    }

pub returns : goal.returns
returns c =
    let a = c.args in
    let l = c.loop-slot in
    stands-none _ _ _ (open-from a.image.now _ a.own a.d c.requires.blocks.size ∙ l.invariant.same ∙ slot_from-end (slot_open a.image.now a.own) _ _ _ (omega arith))
