use Prim.Native.Nat.{ℕ, ◌≤◌, ◌-◌, ◌+◌, ◌%◌}
use mathlib.Core.Path.{◌≡◌, refl, ap, ◌∙◌}
use native.Mathlib.Omega.{arith}
use lib.ListN.{length}
use Rattle.layout.specs.Walks.Chains.{entry_in}
use Rattle.layout.proofs.Laws.Bytes.{length_part, lent}
use Rattle.chain_table.specs.Numbers.{entries_of}
use Rattle.chain_table.proofs.Laws.Numbers.{length-entries, entries-are}
use Rattle.chain_table.proofs.Laws.Turns.{next-block, load-turn}
use Rattle.chain_table.proofs.transfer.load.Goals as goal

pub loop-b-init : goal.loop-b-init
loop-b-init c = (omega arith, refl, refl, λ h. refl, λ i h. absurd (omega arith))

pub block-requires : goal.block-requires
block-requires c = omega (arith, c.requires)

pub loop-b-preserved : goal.loop-b-preserved
loop-b-preserved c =
    let block = c.block in
    let l = c.loop-b in
    let s = c.args.image.now in
    let end = c.min-end.result in
    let k : ℕ = end - l.b in
    let ends : l.b + k ≡ end = omega (arith, c.min-end.ensures) in
    let whole : l.b % 128 ≡ 0 = l.invariant.3 (omega arith) in
    let small : k ≤ 128 = omega (arith, c.min-end.ensures) in
    let room : l.b + k ≤ length l.numbers = omega (arith, c.min-end.ensures) in
    let u = entry_in block.result.now in (
      omega arith,
      refl,
      omega arith,
      λ h. omega (arith, ends, next-block l.b k (length l.numbers) whole (omega (arith, c.min-end.ensures)) (omega arith)),
      λ i h. load-turn s l.numbers _ l.b k whole small room _ block.ensures.bytes
          (lent l.numbers l.b k _ (entries_of u k) (c.load_block.ensures ∙ ap (entries_of u) (length_part l.numbers l.b k room)) (length-entries u k)) l.invariant.4 i (omega arith),
    )

pub returns : goal.returns
returns c = entries-are _ _ _ (omega arith) (λ i h. c.loop-b.invariant.4 i (omega arith))
