-- The steps l₀ to l₃ say what is left of the line after each piece.
use mathlib.Core.Path.{◌≡◌, refl, ◌∙◌}
use mathlib.Core.List.{List, [], ◌∷◌, ◌++◌}
use Prim.Native.Nat.{ℕ, ◌≤◌}
use lib.ListN.{length}
use native.Mathlib.Omega.{arith}
use Rattle.layout.specs.Bytes.{be32}
use Rattle.lister.specs.Text.{TextPut}
use Rattle.layout.specs.Geometry.{block_count}
use Rattle.layout.specs.Listing.{decimal, count_line}
use Rattle.lister.proofs.Pieces.{Pending, begin, room, more, last}
use Rattle.lister.proofs.Lines.{after_total, after_used, count-pieces}
use Rattle.lister.proofs.listing.count_line.Goals as goal

module _ (s : List ℕ) {o : List ℕ} {u f : ℕ} (h : length (count_line s) ≤ length o) (eu : u ≡ be32 s 20) (ef : f ≡ be32 s 24) where
  l₀ : Pending o 0 (count_line s) o 0 (((98 ∷ 108 ∷ 111 ∷ 99 ∷ 107 ∷ 115 ∷ 32 ∷ []) ++ decimal (block_count s)) ++ after_total u f)
  l₀ = begin o 0 (count_line s) _ (omega (arith, h)) (count-pieces s u f eu ef)

  module _ {o₁ : List ℕ} {p₁ : ℕ} (w₁ : TextPut o 0 ((98 ∷ 108 ∷ 111 ∷ 99 ∷ 107 ∷ 115 ∷ 32 ∷ []) ++ decimal (block_count s)) o₁ p₁) where
    l₁ : Pending o 0 (count_line s) o₁ p₁ (after_total u f)
    l₁ = more l₀ w₁ _ refl

    module _ {o₂ : List ℕ} {p₂ : ℕ} (w₂ : TextPut o₁ p₁ ((32 ∷ 117 ∷ 115 ∷ 101 ∷ 100 ∷ 32 ∷ []) ++ decimal u) o₂ p₂) where
      l₂ : Pending o 0 (count_line s) o₂ p₂ (after_used f)
      l₂ = more l₁ w₂ _ refl

      module _ {o₃ : List ℕ} {p₃ : ℕ} (w₃ : TextPut o₂ p₂ ((32 ∷ 102 ∷ 114 ∷ 101 ∷ 101 ∷ 32 ∷ []) ++ decimal f) o₃ p₃) where
        l₃ : Pending o 0 (count_line s) o₃ p₃ (10 ∷ [])
        l₃ = more l₂ w₃ _ refl

pub put_labelled-p-requires : goal.put_labelled-p-requires
put_labelled-p-requires c =
    let a = c.args in
    room (l₀ c.args.image.now c.requires.1 c.header_number-used.ensures c.header_number-free.ensures) ((98 ∷ 108 ∷ 111 ∷ 99 ∷ 107 ∷ 115 ∷ 32 ∷ []) ++ decimal (block_count a.image.now)) _ refl

pub put_labelled-q-requires : goal.put_labelled-q-requires
put_labelled-q-requires c =
    let header-number = c.header_number-used in
    room (l₁ c.args.image.now c.requires.1 c.header_number-used.ensures c.header_number-free.ensures c.put_labelled-p.ensures) ((32 ∷ 117 ∷ 115 ∷ 101 ∷ 100 ∷ 32 ∷ []) ++ decimal header-number.result) _ refl

pub put_labelled-r-requires : goal.put_labelled-r-requires
put_labelled-r-requires c =
    let header-number2 = c.header_number-free in
    room (l₂ c.args.image.now c.requires.1 c.header_number-used.ensures c.header_number-free.ensures c.put_labelled-p.ensures c.put_labelled-q.ensures) ((32 ∷ 102 ∷ 114 ∷ 101 ∷ 101 ∷ 32 ∷ []) ++ decimal header-number2.result) _ refl

pub put_byte-requires : goal.put_byte-requires
put_byte-requires c = (l₃ c.args.image.now c.requires.1 c.header_number-used.ensures c.header_number-free.ensures c.put_labelled-p.ensures c.put_labelled-q.ensures c.put_labelled-r.ensures).fits

pub shape_of-out : goal.shape_of-out
shape_of-out c = c.put_byte.auto.out ∙ (l₃ c.args.image.now c.requires.1 c.header_number-used.ensures c.header_number-free.ensures c.put_labelled-p.ensures c.put_labelled-q.ensures c.put_labelled-r.ensures).size

pub returns : goal.returns
returns c = last (l₃ c.args.image.now c.requires.1 c.header_number-used.ensures c.header_number-free.ensures c.put_labelled-p.ensures c.put_labelled-q.ensures c.put_labelled-r.ensures) c.put_byte.ensures refl
