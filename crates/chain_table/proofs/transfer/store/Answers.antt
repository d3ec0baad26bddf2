use Prim.Native.Nat.{ℕ, ◌≤◌, ◌-◌, ◌+◌, ◌*◌, ◌/◌, ◌%◌}
use mathlib.Core.List.{List}
use mathlib.Core.Path.{◌≡◌, refl, sym, ap, ◌∙◌}
use native.Mathlib.Omega.{arith}
use lib.ListN.{length}
use Rattle.layout.specs.Lists.{joined}
use Rattle.layout.specs.Bytes.{bytes4, part, splice}
use Rattle.layout.proofs.Laws.Bytes.{length_part, length-joined4, lent-part}
use Rattle.chain_table.specs.Numbers.{stored}
use Rattle.chain_table.proofs.Laws.Turns.{next-block, all-stored, store-turn}
use Rattle.chain_table.proofs.transfer.store.Goals as goal

pub loop-b-init : goal.loop-b-init
unfolding stored
loop-b-init c = (omega arith, refl, refl, λ h. refl, refl)

pub overflow_mul-a : goal.overflow_mul-a
overflow_mul-a c = omega (arith, c.requires)

pub overflow_add-e : goal.overflow_add-e
overflow_add-e c = omega (arith, c.requires)

pub slice_bounds-store_block-count : goal.slice_bounds-store_block-count
slice_bounds-store_block-count c = omega (arith, c.requires)

pub slice_bounds-store_block-start : goal.slice_bounds-store_block-start
slice_bounds-store_block-start c = omega (arith, c.requires)

pub slice_bounds-store_block-end : goal.slice_bounds-store_block-end
slice_bounds-store_block-end c = omega (arith, c.requires)

pub loop-b-preserved : goal.loop-b-preserved
loop-b-preserved c =
    let l = c.loop-b in
    let xs = c.args.numbers.now in
    let p = c.requires in
    let end = c.min-end.result in
    let k : ℕ = end - l.b in
    let ends : l.b + k ≡ end = omega (arith, c.min-end.ensures) in
    let whole : l.b % 128 ≡ 0 = l.invariant.3 (omega arith) in
    let small : k ≤ 128 = omega (arith, c.min-end.ensures) in
    let room : l.b + k ≤ length xs = omega (arith, c.min-end.ensures) in
    let a : ℕ = 512 * (1 + l.b / 128) in
    let at : a + 0 ≡ 512 + 4 * l.b = omega (arith, whole) in
    let run : List ℕ = joined bytes4 (part xs l.b k) in
    let long : length run ≡ 4 * k = length-joined4 (part xs l.b k) ∙ ap (λ (x : ℕ). 4 * x) (length_part xs l.b k room) in (
      omega arith,
      refl,
      omega arith,
      λ h. omega (arith, ends, next-block l.b k (length xs) whole (omega (arith, c.min-end.ensures)) (omega arith)),
      l.invariant.4 ∙ store-turn xs l.image l.b k room (omega (arith, p)) _
          (lent-part l.image a (a + 512 - a) 0 run _ c.store_block.ensures (omega (arith, p)) (omega arith)
          ∙ ap (λ (x : ℕ). splice l.image x run) at) ∙ rw ends,
    )

pub returns : goal.returns
returns c = sym (c.loop-b.invariant.4 ∙ all-stored _ _ _ (omega arith))
