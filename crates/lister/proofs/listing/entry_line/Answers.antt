-- The steps l₀ to l₅ say what is left of the line after each piece.
use mathlib.Core.Path.{◌≡◌, refl, ◌∙◌}
use mathlib.Core.List.{List, [], ◌∷◌, ◌++◌}
use Prim.Native.Nat.{ℕ, ◌+◌, ◌≤◌}
use lib.ListN.{length}
use Rattle.layout.specs.Bytes.{be32, part}
use Rattle.lister.specs.Text.{TextPut}
use Rattle.layout.specs.Directory.{unpadded}
use Rattle.layout.specs.Walks.Slots.{entry_at}
use Rattle.layout.specs.Listing.{entry_line, decimal, printed}
use Rattle.lister.proofs.Pieces.{Pending, begin, room, more, last}
use Rattle.lister.proofs.Lines.{after_slot, after_size, entry-pieces}
use Rattle.lister.proofs.listing.entry_line.Goals as goal

module _ (s : List ℕ) (e k : ℕ) {o : List ℕ} {at size blocks : ℕ} {field : List ℕ} (h : at + length (entry_line s e k) ≤ length o)
    (es : size ≡ be32 s (e + 8)) (eb : blocks ≡ be32 s (e + 12)) (ef : field ≡ part s (e + 48) 80) where
  l₀ : Pending o at (entry_line s e k) o at (decimal k ++ after_slot size blocks (unpadded field))
  l₀ = begin o at _ _ h (entry-pieces s e k size blocks field es eb ef)

  module _ {o₁ : List ℕ} {p₁ : ℕ} (w₁ : TextPut o at (decimal k) o₁ p₁) where
    l₁ : Pending o at (entry_line s e k) o₁ p₁ (after_slot size blocks (unpadded field))
    l₁ = more l₀ w₁ _ refl

    module _ {o₂ : List ℕ} {p₂ : ℕ} (w₂ : TextPut o₁ p₁ ((32 ∷ []) ++ decimal size) o₂ p₂) where
      l₂ : Pending o at (entry_line s e k) o₂ p₂ (after_size blocks (unpadded field))
      l₂ = more l₁ w₂ _ refl

      module _ {o₃ : List ℕ} {p₃ : ℕ} (w₃ : TextPut o₂ p₂ ((32 ∷ []) ++ decimal blocks) o₃ p₃) where
        l₃ : Pending o at (entry_line s e k) o₃ p₃ ((32 ∷ []) ++ (printed (unpadded field) ++ (10 ∷ [])))
        l₃ = more l₂ w₃ _ refl

        module _ {o₄ : List ℕ} {p₄ : ℕ} (w₄ : TextPut o₃ p₃ (32 ∷ []) o₄ p₄) where
          l₄ : Pending o at (entry_line s e k) o₄ p₄ (printed (unpadded field) ++ (10 ∷ []))
          l₄ = more l₃ w₄ _ refl

          module _ {o₅ : List ℕ} {p₅ : ℕ} (w₅ : TextPut o₄ p₄ (printed (unpadded field)) o₅ p₅) where
            l₅ : Pending o at (entry_line s e k) o₅ p₅ (10 ∷ [])
            l₅ = more l₄ w₅ _ refl

pub put_decimal-p-requires : goal.put_decimal-p-requires
put_decimal-p-requires c = room (l₀ c.args.image.now (entry_at c.args.b c.args.k) c.args.k c.requires.1 c.number_at-size.ensures c.number_at-blocks.ensures c.field_at-name.ensures) (decimal c.args.k) _ refl

pub put_labelled-q-requires : goal.put_labelled-q-requires
put_labelled-q-requires c =
    let number_at = c.number_at-size in
    room (l₁ c.args.image.now (entry_at c.args.b c.args.k) c.args.k c.requires.1 c.number_at-size.ensures c.number_at-blocks.ensures c.field_at-name.ensures c.put_decimal-p.ensures) ((32 ∷ []) ++ decimal number_at.result) _ refl

pub put_labelled-r-requires : goal.put_labelled-r-requires
put_labelled-r-requires c =
    let number-at2 = c.number_at-blocks in
    room (l₂ c.args.image.now (entry_at c.args.b c.args.k) c.args.k c.requires.1 c.number_at-size.ensures c.number_at-blocks.ensures c.field_at-name.ensures c.put_decimal-p.ensures c.put_labelled-q.ensures) ((32 ∷ []) ++ decimal number-at2.result) _ refl

pub put_byte-s-requires : goal.put_byte-s-requires
put_byte-s-requires c = room (l₃ c.args.image.now (entry_at c.args.b c.args.k) c.args.k c.requires.1 c.number_at-size.ensures c.number_at-blocks.ensures c.field_at-name.ensures c.put_decimal-p.ensures c.put_labelled-q.ensures c.put_labelled-r.ensures) (32 ∷ []) _ refl

pub put_name-t-requires : goal.put_name-t-requires
put_name-t-requires c = room (l₄ c.args.image.now (entry_at c.args.b c.args.k) c.args.k c.requires.1 c.number_at-size.ensures c.number_at-blocks.ensures c.field_at-name.ensures c.put_decimal-p.ensures c.put_labelled-q.ensures c.put_labelled-r.ensures c.put_byte-s.ensures) (printed (unpadded c.field_at-name.result.now)) _ refl

pub put_byte-requires : goal.put_byte-requires
put_byte-requires c = (l₅ c.args.image.now (entry_at c.args.b c.args.k) c.args.k c.requires.1 c.number_at-size.ensures c.number_at-blocks.ensures c.field_at-name.ensures c.put_decimal-p.ensures c.put_labelled-q.ensures c.put_labelled-r.ensures c.put_byte-s.ensures c.put_name-t.ensures).fits

pub shape_of-out : goal.shape_of-out
shape_of-out c = c.put_byte.auto.out ∙ (l₅ c.args.image.now (entry_at c.args.b c.args.k) c.args.k c.requires.1 c.number_at-size.ensures c.number_at-blocks.ensures c.field_at-name.ensures c.put_decimal-p.ensures c.put_labelled-q.ensures c.put_labelled-r.ensures c.put_byte-s.ensures c.put_name-t.ensures).size

pub returns : goal.returns
returns c = last (l₅ c.args.image.now (entry_at c.args.b c.args.k) c.args.k c.requires.1 c.number_at-size.ensures c.number_at-blocks.ensures c.field_at-name.ensures c.put_decimal-p.ensures c.put_labelled-q.ensures c.put_labelled-r.ensures c.put_byte-s.ensures c.put_name-t.ensures) c.put_byte.ensures refl
