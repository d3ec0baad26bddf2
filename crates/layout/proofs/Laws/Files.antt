-- What is known of a file of a sound image, in any directory of the tree: where its entry is, its blocks, its content.
use Prim.Native.Nat.{ℕ, ◌+◌, ◌-◌, ◌*◌, ◌/◌, ◌≤◌, ◌<◌, suc, zero}
use mathlib.Core.Bool.{true, not}
use mathlib.Core.List.{List, [], ◌∷◌}
use mathlib.Core.Logic.{◌⊎◌, inl, inr, ⊎_elim, ◌≢◌}
use mathlib.Core.Path.{◌≡◌, refl, sym, ap, ◌∙◌}
use native.Mathlib.Omega.{arith}
use lib.Dec.{eqb}
use lib.ListN.{length, length-append, length-take, get_or}
use borrow.Author.Tests.{eqb-true, eqb-false, not-true, ne_eqb}
use lib.Seq.{take_at, drop-append-add}
use Rattle.layout.specs.Limits.{max_attributes}
use Rattle.layout.specs.Lists.{joined}
use Rattle.layout.specs.Bytes.{block, part}
use Rattle.layout.specs.Geometry.{block_count, blocks_for}
use Rattle.layout.specs.Table.{next, chain_ok}
use Rattle.layout.specs.Directory.{slot_at, type_of, first_block, size_of, blocks_of, attribute_block_of, attribute_size_of, is_free, is_file, name_ok, free_slot, directory, dirs, file_blocks, content, attribute_blocks, attributes}
use Rattle.layout.specs.Check.{no_attributes, attributes_ok, file_ok}
use Rattle.layout.proofs.Laws.Bytes.{length-block, part-part}
use Rattle.layout.proofs.Laws.Chains.{length-chain, chain-below}
use Rattle.layout.proofs.Laws.Lists.{In, lowest-met, get_d-in}
use Rattle.layout.proofs.Laws.Trees.{size_at, length-directory, block-above}
use Rattle.layout.proofs.Laws.Sound.{Sound, Entry, slot_ok-split}
use Rattle.layout.proofs.Laws.Slots.{slot-entry, slot-ok}
use Rattle.layout.proofs.Laws.Owners.{file-chained, second-chained}
use Rattle.layout.proofs.Laws.Tests.{and_split, or_split, within-split, within-join}

-- an entry of the directory lies in one block of the image
pub record Slot (s : List ℕ) (e : ℕ) : Type 0 where
  pub inside : e / 512 < block_count s
  pub aligned : e + 128 ≤ 512 * (e / 512) + 512

-- the entry of a file that is there
pub record File (s : List ℕ) (e : ℕ) : Type 0 where
  pub slot : Slot s e
  pub blocks : blocks_of s e ≡ blocks_for (size_of s e)
  pub chained : chain_ok (next s) (block_count s) (first_block s e) (blocks_of s e) ≡ true
  pub fields : attributes_ok s e ≡ true
  pub second : chain_ok (next s) (block_count s) (attribute_block_of s e) (attribute_size_of s e) ≡ true

-- a file's attribute fields: none, or a block and 1 to 8 of them
abbrev pub AttributeFields : ℕ → ℕ → Type 0
AttributeFields first size = ((first ≡ 0) × (size ≡ 0)) ⊎ ((first ≢ 0) × (1 ≤ size) × (size ≤ max_attributes))

pub attributes_ok-split : (s : List ℕ) (e : ℕ) → attributes_ok s e ≡ true → AttributeFields (attribute_block_of s e) (attribute_size_of s e)
unfolding attributes_ok no_attributes
attributes_ok-split s e ok = ⊎_elim
    (λ a. let z = and_split (eqb (attribute_block_of s e) 0) _ a in inl (eqb-true _ _ z.0, eqb-true _ _ z.1))
    (λ a. let z = and_split (not (eqb (attribute_block_of s e) 0)) _ a in
    let w = within-split 1 max_attributes (attribute_size_of s e) z.1 in
    inr (eqb-false _ _ (not-true _ z.0), w.0, w.1))
    (or_split (no_attributes s e) _ ok)

pub attributes_ok-join : (s : List ℕ) (e : ℕ) → AttributeFields (attribute_block_of s e) (attribute_size_of s e) → attributes_ok s e ≡ true
unfolding attributes_ok no_attributes
attributes_ok-join s e (inl w) = rw (w.0, w.1)
attributes_ok-join s e (inr w) = rw (ne_eqb (attribute_block_of s e) 0 w.0) (within-join 1 max_attributes (attribute_size_of s e) w.1 w.2)

pub attributes-few : (s : List ℕ) (e : ℕ) → attributes_ok s e ≡ true → attribute_size_of s e ≤ max_attributes
attributes-few s e ok = ⊎_elim (λ a. omega (arith, a.1)) (λ a. a.2) (attributes_ok-split s e ok)

-- the bytes of some blocks, one after the other
pub length-blocks : (s bs : List ℕ) → ((x : ℕ) → In x bs → 512 * x + 512 ≤ length s) → length (joined (block s) bs) ≡ 512 * length bs
length-blocks s [] f = refl
length-blocks s (b ∷ bs) f =
    length-append (block s b) (joined (block s) bs) ∙ omega (arith, length-block s b (f b (inl refl)), length-blocks s bs (λ x m. f x (inr m)))

-- the i-th of them
pub joined-block : (s bs : List ℕ) → ((x : ℕ) → In x bs → 512 * x + 512 ≤ length s) → (i : ℕ) → i < length bs
    → part (joined (block s) bs) (512 * i) 512 ≡ block s (get_or bs i 0)
joined-block s [] f i g = absurd (omega arith)
joined-block s (b ∷ bs) f zero g = take_at (block s b) (joined (block s) bs) 512 (length-block s b (f b (inl refl)))
joined-block s (b ∷ bs) f (suc i) g =
    let e : 512 * suc i ≡ length (block s b) + 512 * i = omega (arith, length-block s b (f b (inl refl))) in
    rw (e, drop-append-add (block s b) (joined (block s) bs) (512 * i)) (joined-block s bs (λ x m. f x (inr m)) i (omega arith))

pub length-file_blocks : (s : List ℕ) (e : ℕ) → length (file_blocks s e) ≡ blocks_of s e
unfolding file_blocks
length-file_blocks s e = length-chain (next s) (first_block s e) (blocks_of s e)

pub length-attribute_blocks : (s : List ℕ) (e : ℕ) → length (attribute_blocks s e) ≡ attribute_size_of s e
unfolding attribute_blocks
length-attribute_blocks s e = length-chain (next s) (attribute_block_of s e) (attribute_size_of s e)

-- the lowest free slot of the directory at b
pub free-slot : (s : List ℕ) (b : ℕ) → free_slot s (directory s b) ≢ 0
    → (1 ≤ free_slot s (directory s b)) × (free_slot s (directory s b) < 4 * size_at s b - 1) × (type_of s (slot_at (directory s b) (free_slot s (directory s b))) ≡ 0)
unfolding free_slot
free-slot s b some =
    let r = lowest-met (λ j. is_free (type_of s (slot_at (directory s b) j))) 1 (4 * length (directory s b) - 2) some in
    (r.0, omega (arith, length-directory s b, r.0, r.1), eqb-true _ _ r.2)

module _ (s : List ℕ) (S : Sound s) where
  pub entry-slot : (a : ℕ) → Entry s a → Slot s a
  entry-slot a E =
      let w = block-above s (block_count s) S.tree S.least (a / 512) E.within-tree in
      let h = E.aligned in
      record { inside = w.1; aligned = omega arith }

  module _ (d : ℕ × ℕ) (di : In d (dirs s)) (k : ℕ) (h : 1 ≤ k) (g : k < 4 * size_at s d.0 - 1) (t : is_file (type_of s (slot_at (directory s d.0) k)) ≡ true) where
    abbrev a : ℕ
    a = slot_at (directory s d.0) k

    pub file-right : file_ok s a ≡ true
    file-right = ⊎_elim (λ z. let w = within-split 0x60 0x9F (type_of s a) t in absurd (omega arith)) (λ r. ⊎_elim (λ f. f.1)
        (λ f. let w = within-split 0x60 0x9F (type_of s a) t in let v = within-split 0x20 0x5F (type_of s a) f.0 in absurd (omega arith)) r)
        (slot_ok-split s a (slot-ok s S d di k h g))

    pub file-in : File s a
    unfolding file_ok
    file-in =
        let E = slot-entry s S d di k (omega arith) in
        let a₁ = and_split (name_ok s a) _ file-right in
        let a₂ = and_split (attributes_ok s a) _ a₁.1 in
        let a₃ = and_split (eqb (blocks_of s a) (blocks_for (size_of s a))) _ a₂.1 in
        record { slot = entry-slot a E; blocks = eqb-true _ _ a₃.0; chained = file-chained s S a E t; fields = a₂.0; second = second-chained s S a E t }

  -- its blocks, its content and its attributes
  pub file-inside : (e x : ℕ) → File s e → In x (file_blocks s e) → x < block_count s
  unfolding file_blocks
  file-inside e x f m = chain-below (next s) (block_count s) (first_block s e) (blocks_of s e) x f.chained m

  pub attribute-inside : (e x : ℕ) → File s e → In x (attribute_blocks s e) → x < block_count s
  unfolding attribute_blocks
  attribute-inside e x f m = chain-below (next s) (block_count s) (attribute_block_of s e) (attribute_size_of s e) x f.second m

  module _ (e : ℕ) (f : File s e) where
    bound : (x : ℕ) → In x (file_blocks s e) → 512 * x + 512 ≤ length s
    bound x m = omega (arith, file-inside e x f m, S.whole)

    length-file : length (joined (block s) (file_blocks s e)) ≡ 512 * blocks_of s e
    length-file = length-blocks s (file_blocks s e) bound ∙ ap (λ (k : ℕ). 512 * k) (length-file_blocks s e)

    pub length-content : length (content s e) ≡ size_of s e
    unfolding content
    length-content = let l = length-file in simp length-take (omega (arith, f.blocks))

    pub length-attributes : length (attributes s e) ≡ 512 * attribute_size_of s e
    unfolding attributes
    length-attributes =
        length-blocks s (attribute_blocks s e) (λ x m. omega (arith, attribute-inside e x f m, S.whole)) ∙ ap (λ (k : ℕ). 512 * k) (length-attribute_blocks s e)

    -- block i of the file, cut at the file's end, is that part of its content
    pub content-part : (i m : ℕ) → i < blocks_of s e → m ≤ 512 → m ≤ size_of s e - 512 * i
        → part s (512 * get_or (file_blocks s e) i 0) m ≡ part (content s e) (512 * i) m
    unfolding content
    content-part i m h m₁ m₂ =
        let b : ℕ = get_or (file_blocks s e) i 0 in
        let J : List ℕ = joined (block s) (file_blocks s e) in
        let l = length-file_blocks s e in
        let lj = length-file in
        let fit : 512 * b + 512 ≤ length s = bound b (get_d-in (file_blocks s e) i 0 (omega arith)) in
        let z : 512 * b ≡ 512 * b + 0 = omega arith in
        let y : 512 * i + 0 ≡ 0 + 512 * i = omega arith in
        ap (λ (a : ℕ). part s a m) z ∙ sym (part-part s (512 * b) 512 0 m fit (omega arith))
        ∙ ap (λ (B : List ℕ). part B 0 m) (sym (joined-block s (file_blocks s e) bound i (omega arith)))
        ∙ part-part J (512 * i) 512 0 m (omega arith) (omega arith) ∙ ap (λ (a : ℕ). part J a m) y
        ∙ sym (part-part J 0 (size_of s e) (512 * i) m (omega (arith, f.blocks)) (omega arith))
