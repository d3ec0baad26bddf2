-- The steps l₀ and l₁ say what is left of the list after each piece.
use mathlib.Core.Path.{◌≡◌, refl, ◌∙◌}
use mathlib.Core.List.{List, ◌++◌}
use Prim.Native.Nat.{ℕ, ◌+◌, ◌-◌, ◌*◌, ◌≤◌}
use lib.ListN.{length}
use native.Mathlib.Omega.{arith}
use Rattle.layout.specs.Bytes.{be32}
use Rattle.layout.specs.Check.{check}
use Rattle.layout.specs.Geometry.{block_count, root_block}
use Rattle.layout.specs.Walks.Slots.{entry_at}
use Rattle.layout.specs.Lists.{joined}
use Rattle.layout.specs.Directory.{files, root}
use Rattle.layout.specs.Listing.{file_line, count_line}
use Rattle.lister.specs.Text.{TextPut, slot_lines}
use Rattle.lister.proofs.Pieces.{Pending, begin, room, more, last}
use Rattle.lister.proofs.Lines.{list-pieces}
use Rattle.layout.proofs.Walks.Shapes.{sound-shape}
use Rattle.layout.proofs.Walks.Homes.{root-at, root-chain}
use Rattle.lister.proofs.listing.list.Goals as goal

module _ (s : List ℕ) {o : List ℕ} (e : check s ≡ 0) (h : length (count_line s ++ joined (file_line s) (files s (root s))) ≤ length o)
    {first d : ℕ} (ef : first ≡ root_block (block_count s)) (ed : d ≡ be32 s (entry_at first 0 + 12)) where
  l₀ : Pending o 0 (count_line s ++ joined (file_line s) (files s (root s))) o 0 (count_line s ++ slot_lines s 1 (4 * d - 2))
  l₀ = begin o 0 _ _ (omega (arith, h)) (list-pieces s e d (rw ef at ed))

  module _ {o₁ : List ℕ} {p₁ : ℕ} (w₁ : TextPut o 0 (count_line s) o₁ p₁) where
    l₁ : Pending o 0 (count_line s ++ joined (file_line s) (files s (root s))) o₁ p₁ (slot_lines s 1 (4 * d - 2))
    l₁ = more l₀ w₁ _ refl

pub root_block-first-requires : goal.root_block-first-requires
root_block-first-requires c = omega (arith, sound-shape c.args.image.now c.requires.0)

pub number_at-d-requires : goal.number_at-d-requires
number_at-d-requires c =
    let h = sound-shape c.args.image.now c.requires.0 in
    (omega arith, omega arith)

pub count_line-p-requires : goal.count_line-p-requires
count_line-p-requires c =
    let h = sound-shape c.args.image.now c.requires.0 in
    let l = room (l₀ c.args.image.now c.requires.0 c.requires.1 c.root_block-first.ensures c.number_at-d.ensures) (count_line c.args.image.now) _ refl in
    (omega arith, omega arith)

pub file_lines-requires : goal.file_lines-requires
file_lines-requires c =
    let number_at = c.number_at-d in
    let e = c.root_block-first.ensures in
    let a = c.args in
    let p = c.requires in
    let s = a.image.now in
    (rw e (root-at s p.0 _ (rw e at number_at.ensures)), rw e (root-chain s p.0 _ (rw e at number_at.ensures)), (l₁ c.args.image.now c.requires.0 c.requires.1 c.root_block-first.ensures c.number_at-d.ensures c.count_line-p.ensures).fits)

pub shape_of-out : goal.shape_of-out
shape_of-out c = c.file_lines.auto.out ∙ (l₁ c.args.image.now c.requires.0 c.requires.1 c.root_block-first.ensures c.number_at-d.ensures c.count_line-p.ensures).size

pub returns : goal.returns
returns c = last (l₁ c.args.image.now c.requires.0 c.requires.1 c.root_block-first.ensures c.number_at-d.ensures c.count_line-p.ensures) c.file_lines.ensures refl
