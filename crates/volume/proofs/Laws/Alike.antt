-- ONE FILE SHOWN BY TWO SOUND IMAGES: the looks answer alike, wherever it lies in each; look up gives the same but for the slot.
use Prim.Native.Nat.{ℕ, zero, suc, ◌/◌, ◌<◌, ◌≤◌}
use mathlib.Core.Path.{◌≡◌, refl, sym, ap, ◌∙◌}
use mathlib.Core.Bool.{Bool, true, false, not}
use mathlib.Core.List.{List}
use mathlib.Core.Logic.{◌⊎◌, inl, inr, ◌≢◌}
use native.Mathlib.Nat.{suc-ne-zero}
use native.Mathlib.Omega.{arith}
use borrow.Author.Tests.{le-ltb}
use lib.ListN.{length}
use lib.Dec.{eqb}
use Rattle.layout.specs.Refusals.{require}
use Rattle.layout.specs.Geometry.{blocks_for}
use Rattle.layout.specs.Directory.{size_of, blocks_of, attribute_size_of, is_file, content, attributes}
use Rattle.layout.specs.Check.{check}
use Rattle.layout.specs.Paths.{parts, path_ok, leading, shallow, path_slot, entry_of, file_refusal}
use Rattle.layout.specs.Looks.{lookup_refusal, lookup, read_refusal, read, extent_of, look_in_place, read_attributes}
use Rattle.volume.specs.Views.{File, file_of, file_at}
use Rattle.volume.proofs.Laws.Views.{file-shown, shown-accepted}
use Rattle.volume.proofs.Laws.Effects.{content-length, attributes-blocks}
use Rattle.volume.proofs.Laws.Shown.{file_in}
use Rattle.layout.proofs.Laws.Tests.{lt-or-ge}
use Rattle.layout.proofs.Laws.Looks.{lookup-file, look-content}

-- two refusals of a path are one number
refused-alike : (g w t u : Bool) → require g 9 (require w 17 (require t 10 0)) ≢ 0 → require g 9 (require w 17 (require u 10 0)) ≢ 0
    → require g 9 (require w 17 (require t 10 0)) ≡ require g 9 (require w 17 (require u 10 0))
refused-alike false w t u h k = refl
refused-alike true false t u h k = refl
refused-alike true true false false h k = refl
refused-alike true true true u h k = absurd (h refl)
refused-alike true true false true h k = absurd (k refl)

module _ (s s' path : List ℕ) (ok : check s ≡ 0) (ok' : check s' ≡ 0) (shows : file_at s path ≡ file_at s' path) where
  abbrev e : ℕ
  e = entry_of is_file s path

  abbrev e' : ℕ
  e' = entry_of is_file s' path

  -- the file that both show
  record Both : Type 0 where
    found : lookup_refusal s path ≡ 0
    found' : lookup_refusal s' path ≡ 0
    bytes : content s e ≡ content s' e'
    size : size_of s e ≡ size_of s' e'
    blocks : blocks_of s e ≡ blocks_of s' e'
    attributes-same : attributes s e ≡ attributes s' e'
    attribute-size : attribute_size_of s e ≡ attribute_size_of s' e'

  both : file_refusal s path ≡ 0 → Both
  unfolding lookup_refusal file_of
  both r =
      let r' = shown-accepted s' path _ (sym shows ∙ file-shown s path r) in
      let q : file_of s e ≡ file_of s' e' = ap (file_in (file_of s e)) (sym (file-shown s path r) ∙ shows ∙ file-shown s' path r') in
      let b : content s e ≡ content s' e' = ap (λ (f : File). f.bytes) q in
      let a : attributes s e ≡ attributes s' e' = ap (λ (f : File). f.attributes) q in
      let l : size_of s e ≡ size_of s' e' = sym (content-length s path ok r) ∙ ap length b ∙ content-length s' path ok' r' in
      let o : lookup_refusal s path ≡ 0 = rw (ok, r) in
      let o' : lookup_refusal s' path ≡ 0 = rw (ok', r') in
      record {
        found = o;
        found' = o';
        bytes = b;
        size = l;
        blocks = (lookup-file s path o).blocks ∙ ap blocks_for l ∙ sym (lookup-file s' path o').blocks;
        attributes-same = a;
        attribute-size = sym (attributes-blocks s path ok r) ∙ ap (λ (x : List ℕ). length x / 512) a ∙ attributes-blocks s' path ok' r';
      }

  -- the number with which both refuse
  numbers : file_refusal s path ≢ 0 → file_refusal s' path ≢ 0 → file_refusal s path ≡ file_refusal s' path
  unfolding file_refusal
  numbers n m = refused-alike (path_ok path) (shallow (leading (parts path))) (not (eqb (path_slot is_file s path) 0)) (not (eqb (path_slot is_file s' path) 0)) n m

  record Neither : Type 0 where
    number : ℕ
    refused : lookup_refusal s path ≡ suc number
    refused' : lookup_refusal s' path ≡ suc number

  neither : (k : ℕ) → file_refusal s path ≡ suc k → Neither
  unfolding lookup_refusal
  neither k r =
      let n : file_refusal s path ≢ 0 = λ z. suc-ne-zero k (sym r ∙ z) in
      let q = numbers n (λ z. n (shown-accepted s path _ (shows ∙ file-shown s' path z))) in
      record { number = k; refused = rw (ok, r); refused' = rw (ok', sym q ∙ r) }

  either : Both ⊎ Neither
  either = go (file_refusal s path) refl
    where
      go : (k : ℕ) → file_refusal s path ≡ k → Both ⊎ Neither
      go zero r = inl (both r)
      go (suc k) r = inr (neither k r)

  pub lookup-alike : ((lookup s path).number ≡ (lookup s' path).number) × ((lookup s path).size ≡ (lookup s' path).size) × ((lookup s path).blocks ≡ (lookup s' path).blocks)
  unfolding lookup
  lookup-alike = go either
    where
      go : Both ⊎ Neither → ((lookup s path).number ≡ (lookup s' path).number) × ((lookup s path).size ≡ (lookup s' path).size) × ((lookup s path).blocks ≡ (lookup s' path).blocks)
      go (inl B) = (rw (B.found, B.found'), rw (B.found, B.found') B.size, rw (B.found, B.found') B.blocks)
      go (inr N) = (rw (N.refused, N.refused'), rw (N.refused, N.refused'), rw (N.refused, N.refused'))

  pub read_alike : (offset : ℕ) (buffer : List ℕ) → read s path offset buffer ≡ read s' path offset buffer
  unfolding read read_refusal
  read_alike offset buffer = go either
    where
      go : Both ⊎ Neither → read s path offset buffer ≡ read s' path offset buffer
      go (inl B) = rw (B.found, B.found', B.size, B.bytes)
      go (inr N) = rw (N.refused, N.refused')

  pub attributes-alike : (buffer : List ℕ) → read_attributes s path buffer ≡ read_attributes s' path buffer
  unfolding read_attributes
  attributes-alike buffer = go either
    where
      go : Both ⊎ Neither → read_attributes s path buffer ≡ read_attributes s' path buffer
      go (inl B) = rw (B.found, B.found', B.attribute-size, B.attributes-same)
      go (inr N) = rw (N.refused, N.refused')

  pub look-alike : (i : ℕ) → look_in_place s path i ≡ look_in_place s' path i
  unfolding look_in_place extent_of
  look-alike i = go either (lt-or-ge i (blocks_of s e))
    where
      go : Both ⊎ Neither → (i < blocks_of s e) ⊎ (blocks_of s e ≤ i) → look_in_place s path i ≡ look_in_place s' path i
      go (inl B) (inl h) = look-content s path i B.found h ∙ rw (B.size, B.bytes) (sym (look-content s' path i B.found' (omega (arith, B.blocks))))
      go (inl B) (inr h) = rw (B.found, B.found', B.blocks, le-ltb i (blocks_of s' e') (omega (arith, B.blocks)))
      go (inr N) w = rw (N.refused, N.refused')
