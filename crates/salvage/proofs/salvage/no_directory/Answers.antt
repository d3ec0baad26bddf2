use Rattle.std.proofs.Common.{◌≡◌, ◌+◌, ◌-◌, ◌*◌, refl, sym, ◌∙◌, arith}
use Rattle.layout.specs.Table.{next}
use Rattle.layout.specs.Walks.Slots.{entry_at}
use Rattle.layout.proofs.Walks.Slots.{place-below, place-entry, place-then, place-first}
use Rattle.salvage.proofs.Walks.Refusals.{plain_end, plain-next, plain-stop}
use Rattle.salvage.proofs.salvage.no_directory.Goals as goal

pub loop-k-init : goal.loop-k-init
loop-k-init c =
    let e : 4 * c.args.root.d - 1 - 1 ≡ 4 * c.args.root.d - 2 = omega arith in
    rw e (place-first (next c.args.image.now) c.args.root.first c.args.root.d (omega arith), refl)

pub type_at-requires : goal.type_at-requires
type_at-requires c = let h = place-below _ _ _ _ _ _ c.requires.blocks c.loop-k.invariant.0 in omega arith

pub returns-then-is_directory : goal.returns-then-is_directory
returns-then-is_directory c =
    let l = c.loop-k in
    sym (l.invariant.1 ∙ plain-stop _ _ _ _ (entry_at l.b l.k) _ (place-entry _ _ _ _ _ l.invariant.0) c.type_at.ensures (omega arith) _ c.is_directory.ensures c.if-is_directory.true)

pub following-b-requires : goal.following-b-requires
following-b-requires c = let h = place-below _ _ _ _ _ _ c.requires.blocks c.loop-k.invariant.0 in omega arith

pub loop-k-preserved : goal.loop-k-preserved
loop-k-preserved c =
    let l = c.loop-k in
    let e : 4 * c.args.root.d - 1 - (l.k + 1) ≡ 4 * c.args.root.d - 1 - l.k - 1 = omega arith in (
      rw e (place-then _ _ _ _ _ _ _ l.invariant.0 (omega arith) c.following-b.ensures),
      l.invariant.1 ∙ plain-next _ _ _ _ (entry_at l.b l.k) _ (place-entry _ _ _ _ _ l.invariant.0) c.type_at.ensures _ (omega arith) _ c.is_directory.ensures c.if-is_directory.false,
    )

pub returns : goal.returns
returns c = sym (c.loop-k.invariant.1 ∙ plain_end _ _ _ _ (omega arith))
