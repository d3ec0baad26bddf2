-- THE THEOREMS OF SALVAGE (FORMAT.md, 16), for readers.
use Prim.Native.Nat.{ℕ, zero, suc, ◌-◌, ◌*◌, ◌≤◌, ◌<◌}
use mathlib.Core.Bool.{true, false, not}
use mathlib.Core.List.{List}
use mathlib.Core.Path.{◌≡◌, refl, sym, ap, ◌∙◌}
use native.Mathlib.Omega.{arith}
use lib.Dec.{eqb}
use lib.ListN.{length, get_or}
use Rattle.layout.specs.Lists.{every, has}
use Rattle.layout.specs.Bytes.{zeros, splice, part, block}
use mathlib.Core.Logic.{◌⊎◌, inl, inr, ⊎_elim, ◌≢◌}
use Rattle.layout.proofs.Laws.Lists.{has-eqb-in, in-has-eqb, false-has}
use Rattle.layout.specs.Geometry.{block_count, table_blocks}
use Rattle.layout.specs.Table.{next}
use Rattle.layout.specs.Directory.{root, slot_at, slots, type_of, is_directory, attribute_size_of, is_file, file_blocks, attribute_blocks, content, attributes}
use Rattle.salvage.proofs.Laws.Kept.{entry_kept, held-content, held-attributes, outside_kept, gone-blank, free-kept, codes-length, values-kept, code-moved, first_code, end_moved}
use Rattle.salvage.proofs.Laws.Steps.{Moved}
use Rattle.salvage.proofs.Laws.Holders.{holder, holder-apart, one-holder}
use Rattle.salvage.proofs.Laws.Coded as coded
use Rattle.salvage.proofs.Laws.Fixed.{sound-given, image-kept, codes-zero}
use Rattle.layout.specs.Refusals.{accept}
use Rattle.layout.specs.Check.{check}
use Rattle.salvage.specs.Salvage.{salvage_refusal, slots_done, salvage_image, salvage_codes, SalvageAnswer, salvage}
use Rattle.salvage.specs.Claims.{Gone, Outside, Holds, case_in, before, OnlyCleared}
use Rattle.salvage.proofs.Laws.Result.{Given, given, accepts, salvaged-sound, root-again, given-again}

-- what an accepted call hands back
pub accepted : (s report : List ℕ) → (salvage s report).number ≡ 0 → salvage_refusal s (length report) ≡ 0
unfolding salvage
accepted s report e = go (salvage_refusal s (length report)) _ _ refl e
  where
    go : (r : ℕ) (x y : SalvageAnswer) → y.number ≡ r → (accept {A = SalvageAnswer} r x y).number ≡ 0 → r ≡ 0
    go zero x y q e = refl
    go (suc r) x y q e = sym q ∙ e

pub image-is : (s report : List ℕ) → salvage_refusal s (length report) ≡ 0 → (salvage s report).image ≡ salvage_image s
unfolding salvage
image-is s report e = rw e

pub number_is : (s report : List ℕ) → salvage_refusal s (length report) ≡ 0 → (salvage s report).number ≡ 0
unfolding salvage
number_is s report e = rw e

-- "The result is sound"
pub result-sound : (s report : List ℕ) → (salvage s report).number ≡ 0 → check (salvage s report).image ≡ 0
result-sound s report e =
    let q = accepted s report e in
    ap check (image-is s report q) ∙ salvaged-sound s (given s (length report) q).0

-- "a refusal changes nothing"
pub refusal-unchanged : (s report : List ℕ) → (salvage s report).number ≢ 0 → ((salvage s report).image ≡ s) × ((salvage s report).report ≡ report)
unfolding salvage
refusal-unchanged s report ne = go (salvage_refusal s (length report)) refl
  where
    go : (r : ℕ) → salvage_refusal s (length report) ≡ r → ((salvage s report).image ≡ s) × ((salvage s report).report ≡ report)
    go zero q = absurd (ne (number_is s report q))
    go (suc r) q = (rw q, rw q)

-- the number of the root's blocks, d
abbrev pub dir_size : List ℕ → ℕ
dir_size s = length (root s)

-- "a sound image is unchanged": in every case; where it is not refused, and so has no directory in the root, all codes are 0
pub sound-accepted : (s report : List ℕ) → check s ≡ 0 → (salvage s report).number ≡ 0
    → salvage s report ≡ record { number = 0; image = s; report = splice report 0 (zeros (4 * dir_size s)) }
unfolding salvage
sound-accepted s report c e =
    let q = accepted s report e in
    let A = (given s (length report) q).0 in
    rw (q, image-kept s c A, codes-zero s c A)

pub sound-salvaged : (s report : List ℕ) → check s ≡ 0 → every (λ k. not (is_directory (type_of s (slot_at (root s) k)))) (slots (root s)) ≡ true
    → 4 * dir_size s ≤ length report → salvage s report ≡ record { number = 0; image = s; report = splice report 0 (zeros (4 * dir_size s)) }
sound-salvaged s report c p h = sound-accepted s report c (number_is s report (accepts s (length report) (sound-given s c p) h))

pub sound-unchanged : (s report : List ℕ) → check s ≡ 0 → (salvage s report).image ≡ s
unfolding salvage
sound-unchanged s report c = go (salvage_refusal s (length report)) refl
  where
    go : (r : ℕ) → salvage_refusal s (length report) ≡ r → (salvage s report).image ≡ s
    go zero q = image-is s report q ∙ image-kept s c (given s (length report) q).0
    go (suc r) q = rw q

-- salvaging twice is salvaging once: the second time nothing changes, no slot has a code, and it is accepted if the report is long enough
pub twice : (s report again : List ℕ) → (salvage s report).number ≡ 0 → 4 * dir_size s ≤ length again
    → salvage (salvage s report).image again ≡ record { number = 0; image = (salvage s report).image; report = splice again 0 (zeros (4 * dir_size s)) }
twice s report again e h =
    let q = accepted s report e in
    let A = (given s (length report) q).0 in
    let w = salvage_image s in
    let d : dir_size w ≡ dir_size s = ap length (root-again s A) in
    let a : salvage_refusal w (length again) ≡ 0 = accepts w (length again) (given-again s A) (rw d h) in
    rw (image-is s report q) (sound-accepted w again (salvaged-sound s A) (number_is w again a) ∙ rw d)

-- where slot k of the root begins, and its code
abbrev pub root_slot : List ℕ → ℕ → ℕ
root_slot s k = slot_at (root s) k

abbrev pub code_of : List ℕ → ℕ → ℕ
code_of s k = get_or (salvage_codes s) k 0

module _ (s report : List ℕ) (e : (salvage s report).number ≡ 0) where
  abbrev s' : List ℕ
  s' = (salvage s report).image

  A : Given s
  A = (given s (length report) (accepted s report e)).0

  is : s' ≡ salvage_image s
  is = image-is s report (accepted s report e)

  -- "The first 4d bytes of a lent report get one code per slot": there are 4d, and the report has room for them
  pub one-code-each : (length (salvage_codes s) ≡ 4 * dir_size s) × (4 * dir_size s ≤ length report)
  one-code-each = (codes-length s A, (given s (length report) (accepted s report e)).1)

  -- A slot with code 0 keeps its entry; and a file, also with code 3, its content and its attributes.
  pub code-zero-entry : (k : ℕ) → k < 4 * dir_size s → code_of s k ≡ 0 → part s' (root_slot s k) 128 ≡ part s (root_slot s k) 128
  code-zero-entry k h c = rw is (entry_kept s A k h c)

  module _ (k : ℕ) (h : 1 ≤ k) (g : k ≤ 4 * dir_size s - 2) (c : (code_of s k ≡ 0) ⊎ (code_of s k ≡ 3)) (file : is_file (type_of s (root_slot s k)) ≡ true) where
    pub file-content : content s' (root_slot s k) ≡ content s (root_slot s k)
    file-content = rw is (held-content s A k h g c file)

    pub file-attributes : attributes s' (root_slot s k) ≡ attributes s (root_slot s k)
    file-attributes = rw is (held-attributes s A k h g c file)

  -- "0 where nothing changed": with code 0 the table's entries of a file's blocks stay too; with another code the entry is free now and was not, or its
  -- attributes are gone, or the value of one of its blocks was not 1 and is 1 now.
  pub code-zero-values : (k : ℕ) → 1 ≤ k → k ≤ 4 * dir_size s - 2 → code_of s k ≡ 0 → is_file (type_of s (root_slot s k)) ≡ true → (x : ℕ)
      → (has eqb x (file_blocks s (root_slot s k)) ≡ true) ⊎ (has eqb x (attribute_blocks s (root_slot s k)) ≡ true) → next s' x ≡ next s x
  code-zero-values k h g c f x i =
      rw is (values-kept s A k h g c f x
      (⊎_elim (λ y. inl (has-eqb-in x (file_blocks s (root_slot s k)) y)) (λ y. inr (has-eqb-in x (attribute_blocks s (root_slot s k)) y)) i))

  pub code-tells : (k : ℕ) → 1 ≤ k → k ≤ 4 * dir_size s - 2 → code_of s k ≢ 0
      → ((type_of s (root_slot s k) ≢ 0) × (type_of s' (root_slot s k) ≡ 0))
      ⊎ (((attribute_size_of s (root_slot s k) ≢ 0) × (attribute_size_of s' (root_slot s k) ≡ 0))
      ⊎ ((x : ℕ) × ((has eqb x (file_blocks s (root_slot s k)) ≡ true) ⊎ (has eqb x (attribute_blocks s (root_slot s k)) ≡ true)) × (next s x ≢ 1) × (next s' x ≡ 1)))
  code-tells k h g ne = rw is (tell (code-moved s A k h g ne))
    where
      tell : Moved (code_of s k) s (salvage_image s) (slots_done s).claimed (root_slot s k)
          → ((type_of s (root_slot s k) ≢ 0) × (type_of (salvage_image s) (root_slot s k) ≡ 0))
          ⊎ (((attribute_size_of s (root_slot s k) ≢ 0) × (attribute_size_of (salvage_image s) (root_slot s k) ≡ 0))
          ⊎ ((x : ℕ) × ((has eqb x (file_blocks s (root_slot s k)) ≡ true) ⊎ (has eqb x (attribute_blocks s (root_slot s k)) ≡ true)) × (next s x ≢ 1) × (next (salvage_image s) x ≡ 1)))
      tell (inl w) = inl w
      tell (inr (inl w)) = inr (inl w)
      tell (inr (inr w)) =
          let x = w.1.0 in
          let E = w.1.1 in
          inr (inr (x, ⊎_elim (λ i. inl (in-has-eqb x (file_blocks s (root_slot s k)) i)) (λ i. inr (in-has-eqb x (attribute_blocks s (root_slot s k)) i)) E.mine, E.was, E.is))

  -- A CODE IS ITS CASE: 1 breaks stage 5, 2 its own chain cannot be claimed, 4 that of its attributes cannot, 3 a last value is put right, 0 none of these
  -- (case_in); the slot is then as it was given.
  pub code-case : (k : ℕ) → 1 ≤ k → k ≤ 4 * dir_size s - 2 → (code_of s k ≡ case_in (root s) (before s k) k) × (part (before s k).image (root_slot s k) 128 ≡ part s (root_slot s k) 128)
  unfolding before
  code-case zero h g = absurd (omega arith)
  code-case (suc j) h g = let q : suc j - 1 ≡ j = omega arith in rw q (coded.code-case s A j g, coded.slot-given s A j g)

  -- Codes 1 and 2 leave 128 zeros.
  pub code-zeroed : (k : ℕ) → 1 ≤ k → k ≤ 4 * dir_size s - 2 → (code_of s k ≡ 1) ⊎ (code_of s k ≡ 2) → part s' (root_slot s k) 128 ≡ zeros 128
  code-zeroed zero h g c = absurd (omega arith)
  code-zeroed (suc j) h g c = rw is (coded.code-zeroed s A j g c)

  -- Code 4 clears the two attribute fields; the rest of the entry and the file's content stay.
  pub code-cleared : (k : ℕ) → 1 ≤ k → k ≤ 4 * dir_size s - 2 → code_of s k ≡ 4 → OnlyCleared s s' (root_slot s k)
  code-cleared zero h g c = absurd (omega arith)
  code-cleared (suc j) h g c = rw is (coded.only-cleared s A j g c)

  -- slot 0 has code 0; the end slot's code is not 0 only where its type was wrong
  pub self_code : code_of s 0 ≡ 0
  self_code = first_code s A

  pub end-tells : code_of s (4 * dir_size s - 1) ≢ 0 → (type_of s (root_slot s (4 * dir_size s - 1)) ≢ 0xFF) × (type_of s' (root_slot s (4 * dir_size s - 1)) ≡ 0xFF)
  end-tells ne = rw is (end_moved s A ne)

  -- No byte changes outside the header's counts, the table, the root's slots and the freed blocks.
  pub frame : (i : ℕ) → Outside s s' i → get_or s' i 0 ≡ get_or s i 0
  frame i = rw is (outside_kept s A i)

  -- Every block in use afterwards is the root's, or was claimed by one kept file, in slot k.
  pub one-file : (b : ℕ) → table_blocks (block_count s) < b → b < block_count s → next s' b ≢ 0
      → (has eqb b (root s) ≡ true) ⊎ ((k : ℕ) × Holds s' (root s) k b × ((j : ℕ) → Holds s' (root s) j b → j ≡ k) × (has eqb b (root s) ≡ false))
  one-file b low high used =
      rw is (⊎_elim (λ i. inl (in-has-eqb b (root s) i)) (λ h. inr (h.0, h.1, λ j H. one-holder s A b j h.0 H h.1, false-has b (root s) (holder-apart s A b h.0 h.1)))
      (holder s A b low high (rw is at used)))

  -- L7: a freed block is blank; "Blocks that were free before aren't touched."
  pub freed-blank : (b : ℕ) → Gone s s' b → block s' b ≡ zeros 512
  freed-blank b = rw is (gone-blank s A b)

  pub free-untouched : (b : ℕ) → table_blocks (block_count s) < b → b < block_count s → next s b ≡ 0 → block s' b ≡ block s b
  free-untouched b = rw is (free-kept s A b)
