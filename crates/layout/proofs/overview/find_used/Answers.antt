use Rattle.std.proofs.Common.{ℕ, ◌≡◌, ◌+◌, ◌-◌, ◌*◌, sym, ap, ◌∙◌, arith}
use Rattle.layout.specs.Table.{next, chain}
use Rattle.layout.specs.Walks.Slots.{used_from, entry_at}
use Rattle.layout.proofs.Walks.Slots.{place-below, place-entry, place-then, place-first, stands_here, stands-none}
use Rattle.layout.proofs.Walks.Listed.{used_from-end, used_from-here, used_from-next, used_slot-from}
use Rattle.layout.proofs.overview.find_used.Goals as goal

pub loop-slot-init : goal.loop-slot-init
loop-slot-init c =
    let a = c.args in
    let bs = c.requires.blocks in
    let e : 4 * a.d - 2 ≡ 4 * a.d - 1 - 1 = omega arith in
    (rw e at (place-first (next a.image.now) a.first a.d bs.some), ap (λ (j : ℕ). used_from a.start a.image.now (chain (next a.image.now) a.first a.d) 1 j) e)

pub is_used_from-requires : goal.is_used_from-requires
is_used_from-requires c =
    let h = place-below _ _ _ _ _ _ c.requires.blocks c.loop-slot.invariant.0 in
    omega (arith, h, c.requires.shape)

pub returns-then-is_used_from : goal.returns-then-is_used_from
returns-then-is_used_from c =
    let l = c.loop-slot in
    let a = c.args in
    let bs = c.requires.blocks in (
      stands_here _ _ a.d _ _ _ _ bs l.invariant.0 (omega arith)
          (used_slot-from a.image.now _ a.start a.d bs.size ∙ l.invariant.1 ∙ used_from-here a.start a.image.now _ _ _
          (entry_at l.b l.slot) (place-entry _ _ _ _ _ l.invariant.0) (omega arith) (sym c.if-is_used_from.true ∙ c.is_used_from.ensures)),
      λ z. omega arith,
    )

pub following-b-requires : goal.following-b-requires
following-b-requires c =
    let h = place-below _ _ _ _ _ _ c.requires.blocks c.loop-slot.invariant.0 in
    omega (arith, h, c.requires.shape)

pub loop-slot-preserved : goal.loop-slot-preserved
loop-slot-preserved c =
    let l = c.loop-slot in
    let a = c.args in
    let e : 4 * a.d - 1 - l.slot - 1 ≡ 4 * a.d - 1 - (l.slot + 1) = omega arith in (
      rw e at (place-then _ _ _ _ _ _ _ l.invariant.0 (omega arith) c.following-b.ensures),
      l.invariant.1 ∙ used_from-next a.start a.image.now _ _ _ (entry_at l.b l.slot) (place-entry _ _ _ _ _ l.invariant.0) (omega arith)
          (sym c.if-is_used_from.false ∙ c.is_used_from.ensures)
          ∙ ap (λ (j : ℕ). used_from a.start a.image.now (chain (next a.image.now) a.first a.d) (l.slot + 1) j) e,
    )

pub returns : goal.returns
returns c =
    let a = c.args in
    let l = c.loop-slot in
    stands-none _ _ _ (used_slot-from a.image.now _ a.start a.d c.requires.blocks.size ∙ l.invariant.1
    ∙ used_from-end a.start a.image.now _ _ _ (omega arith))
