use Rattle.std.proofs.Common.{ℕ, ◌≡◌, ◌+◌, ◌-◌, ◌*◌, ap, ◌∙◌, arith}
use Rattle.layout.specs.Table.{next, chain}
use Rattle.layout.specs.Walks.Slots.{slot_free, slot_from, entry_at}
use Rattle.layout.proofs.Walks.Slots.{place-below, place-entry, place-then, place-first, slot_from-end, slot_from-here, slot_from-next, free_slot-from, type-free, type-used, stands_here, stands-none}
use Rattle.layout.proofs.directory.find_free.Goals as goal

pub loop-slot-init : goal.loop-slot-init
loop-slot-init c =
    let a = c.args in
    let bs = c.requires.blocks in
    let e : 4 * a.d - 2 ≡ 4 * a.d - 1 - 1 = omega arith in
    (rw e at (place-first (next a.image.now) a.first a.d bs.some), ap (λ (j : ℕ). slot_from (slot_free a.image.now) (chain (next a.image.now) a.first a.d) 1 j) e)

pub type_at-requires : goal.type_at-requires
type_at-requires c =
    let h = place-below _ _ _ _ _ _ c.requires.blocks c.loop-slot.invariant.0 in
    omega (arith, h, c.requires.shape)

pub returns-then-type_at-eq0 : goal.returns-then-type_at-eq0
returns-then-type_at-eq0 c =
    let l = c.loop-slot in
    let a = c.args in
    let bs = c.requires.blocks in (
      stands_here _ _ a.d _ _ _ _ bs l.invariant.0 (omega arith)
          (free_slot-from a.image.now _ a.d bs.size ∙ l.invariant.1 ∙ slot_from-here (slot_free a.image.now) _ _ _ (entry_at l.b l.slot)
          (place-entry _ _ _ _ _ l.invariant.0) (omega arith) (type-free a.image.now _ _ c.type_at.ensures c.if-type_at-eq0.true)),
      λ z. omega arith,
    )

pub following-b-requires : goal.following-b-requires
following-b-requires c =
    let h = place-below _ _ _ _ _ _ c.requires.blocks c.loop-slot.invariant.0 in
    omega (arith, h, c.requires.shape)

pub loop-slot-preserved : goal.loop-slot-preserved
loop-slot-preserved c =
    let l = c.loop-slot in
    let a = c.args in
    let e : 4 * a.d - 1 - l.slot - 1 ≡ 4 * a.d - 1 - (l.slot + 1) = omega arith in (
      rw e at (place-then _ _ _ _ _ _ _ l.invariant.0 (omega arith) c.following-b.ensures),
      l.invariant.1 ∙ slot_from-next (slot_free a.image.now) _ _ _
          (entry_at l.b l.slot) (place-entry _ _ _ _ _ l.invariant.0) (omega arith) (type-used a.image.now _ _ c.type_at.ensures c.if-type_at-eq0.false)
          ∙ ap (λ (j : ℕ). slot_from (slot_free a.image.now) (chain (next a.image.now) a.first a.d) (l.slot + 1) j) e,
    )

pub returns : goal.returns
returns c =
    let a = c.args in
    let p = c.requires in
    let l = c.loop-slot in
    stands-none _ _ _ (free_slot-from a.image.now _ a.d p.blocks.size ∙ l.invariant.1 ∙ slot_from-end (slot_free a.image.now) _ _ _ (omega arith))
