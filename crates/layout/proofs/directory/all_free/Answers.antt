use mathlib.Core.Path.{refl, sym, ◌∙◌}
use native.Mathlib.Omega.{arith}
use Rattle.layout.specs.Table.{next}
use Rattle.layout.specs.Walks.Slots.{entry_at}
use Rattle.layout.proofs.Walks.Slots.{place-below, place-entry, place-then, place-first, all_free-end, all_free-next, all_free-stop}
use Rattle.layout.proofs.directory.all_free.Goals as goal

pub overflow_mul-left : goal.overflow_mul-left
overflow_mul-left c = omega arith

pub overflow_sub-left : goal.overflow_sub-left
overflow_sub-left c = omega arith

pub loop-left-init : goal.loop-left-init
loop-left-init c = let a = c.args in (place-first (next a.image.now) a.first a.d (omega arith), refl)

pub type_at-requires : goal.type_at-requires
type_at-requires c = let h = place-below _ _ _ _ _ _ c.requires.blocks c.loop-left.invariant.0 in omega arith

pub returns-then-type_at-ne0 : goal.returns-then-type_at-ne0
returns-then-type_at-ne0 c =
    let l = c.loop-left in
    sym (l.invariant.1 ∙ all_free-stop _ _ _ _ (entry_at l.b l.k) _ (place-entry _ _ _ _ _ l.invariant.0) c.type_at.ensures (omega arith) c.if-type_at-ne0.true)

pub overflow_add-k : goal.overflow_add-k
overflow_add-k c = omega arith

pub following-b-requires : goal.following-b-requires
following-b-requires c = let h = place-below _ _ _ _ _ _ c.requires.blocks c.loop-left.invariant.0 in omega arith

pub overflow_sub-left-in-loop-left : goal.overflow_sub-left-in-loop-left
overflow_sub-left-in-loop-left c = omega arith

pub loop-left-smaller : goal.loop-left-smaller
loop-left-smaller c = omega arith

pub loop-left-preserved : goal.loop-left-preserved
loop-left-preserved c =
    let l = c.loop-left in
    (place-then _ _ _ _ _ _ _ l.invariant.0 (omega arith) c.following-b.ensures, l.invariant.1 ∙ all_free-next _ _ _ _ (entry_at l.b l.k) _ (place-entry _ _ _ _ _ l.invariant.0) c.type_at.ensures (omega arith) (omega (arith, c.if-type_at-ne0.false)))

pub returns : goal.returns
returns c =
    let l = c.loop-left in
    sym (l.invariant.1 ∙ all_free-end _ _ _ _ (omega arith))
