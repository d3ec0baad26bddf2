use Prim.Native.Nat.{ℕ, ◌+◌}
use mathlib.Core.Path.{refl, ap, ◌∙◌}
use Rattle.layout.specs.Bytes.{be32}
use Rattle.layout.specs.Walks.Slots.{entry_at}
use native.Mathlib.Omega.{arith}
use Rattle.layout.proofs.Walks.Shapes.{sound-shape}
use Rattle.layout.proofs.Walks.Listed.{root_below, info-numbers}
use Rattle.layout.proofs.overview.volume_numbers.Goals as goal

pub root_block-root-requires : goal.root_block-root-requires
root_block-root-requires c = let h = sound-shape c.args.image.now c.requires in omega arith

pub header_word-used-requires : goal.header_word-used-requires
header_word-used-requires c = let h = sound-shape c.args.image.now c.requires in (omega arith, omega arith)

pub header_word-free-requires : goal.header_word-free-requires
header_word-free-requires c = let h = sound-shape c.args.image.now c.requires in (omega arith, omega arith)

pub word_at-d-requires : goal.word_at-d-requires
word_at-d-requires c =
    let h = sound-shape c.args.image.now c.requires in
    let g = root_below c.args.image.now c.requires in
    let e = c.root_block-root.ensures in
    (omega (arith, h, g, e), omega arith)

pub overflow_cast-result : goal.overflow_cast-result
overflow_cast-result c = let h = sound-shape c.args.image.now c.requires in omega arith

pub returns : goal.returns
returns c =
    let s = c.args.image.now in
    info-numbers s c.requires _ _ _ _ refl c.header_word-used.ensures c.header_word-free.ensures
    (c.word_at-d.ensures ∙ ap (λ (x : ℕ). be32 s (entry_at x 0 + 12)) c.root_block-root.ensures)
