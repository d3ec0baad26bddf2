-- WHAT IS KEPT: an entry with code 0 or 3 with its content; every byte outside the root's slots, the table, the counts and the freed blocks.
use Prim.Native.Nat.{ℕ, zero, suc, ◌+◌, ◌-◌, ◌*◌, ◌/◌, ◌%◌, ◌≤◌, ◌<◌}
use mathlib.Core.Bool.{Bool, true, false, cond}
use mathlib.Core.List.{List, [], ◌∷◌}
use mathlib.Core.Logic.{◌⊎◌, inl, inr, ⊎_elim, ◌≢◌}
use mathlib.Core.Path.{◌≡◌, refl, sym, ap, ◌∙◌, subst}
use native.Mathlib.Decide.{ℕ_discrete}
use native.Mathlib.Omega.{arith}
use lib.Dec.{eqb}
use lib.ListN.{length, get_or, take, length-append, get_or-append}
use lib.Seq.{ext_get_or, get_or-append-add}
use borrow.Author.Tests.{eqb-true}
use Rattle.layout.specs.Lists.{has, joined}
use Rattle.layout.specs.Bytes.{part, block, zeros}
use Rattle.layout.specs.Geometry.{block_count, table_blocks, root_block, in_volume}
use Rattle.layout.specs.Table.{next}
use Rattle.layout.specs.Directory.{slot_at, type_of, size_of, is_file, directory, root_of, file_blocks, content, attribute_blocks, attributes}
use Rattle.layout.proofs.Laws.Tests.{lt-or-gt, true-or-false, true-not-false}
use Rattle.layout.proofs.Laws.Lists.{In, every_in, has-eqb-in, in-has-eqb, joined_same}
use Rattle.layout.proofs.Laws.Bytes.{length-zeros, get_d-zeros, length-block, get_d_part}
use Rattle.layout.proofs.Laws.Frames.{Same, same_then, same_byte, same-part}
use Rattle.layout.proofs.Laws.Entries.{same-type, same-field}
use Rattle.layout.proofs.Laws.Chains.{nth, in_volume-split}
use Rattle.layout.proofs.Laws.Trees.{in-directory, length-directory, slot_at-is}
use Rattle.salvage.specs.Salvage.{slots_done, salvage_image, salvage_codes, end_at, end_right}
use Rattle.salvage.specs.Claims.{Gone, Outside}
use Rattle.salvage.proofs.Laws.Places.{Place, slot-low, slot-high, slot-beside}
use Rattle.salvage.proofs.Laws.Done.{file-claimed, file-not-root, claimed-root}
use Rattle.salvage.proofs.Laws.Steps.{Whole, Moved}
use Rattle.salvage.proofs.Laws.Runs.{whole-then, moved_then}
use Rattle.salvage.proofs.Laws.Final.{Freed, final-slot}
use Rattle.salvage.proofs.Laws.Result.{Given, whole, place, run, end, done, len, last-slot, claimed-used, root-used}

module _ (s : List ℕ) (A : Given s) where
  abbrev n : ℕ
  n = block_count s

  abbrev ds : List ℕ
  ds = directory s (root_of s)

  abbrev m : ℕ
  m = 4 * length ds - 2

  abbrev t : List ℕ
  t = (slots_done s).image

  abbrev cs : List ℕ
  cs = (slots_done s).claimed

  abbrev w : List ℕ
  w = salvage_image s

  G : Place n ds
  G = place s A

  pub short : m < 4 * length ds
  short = omega (arith, G.some)

  pub fits : (k : ℕ) → k ≤ m → slot_at ds k + 128 ≤ length s
  fits k h = omega (arith, slot-high n ds G k (omega (arith, short)), whole s A)

  pub code_is : (k : ℕ) → k ≤ m → get_or (salvage_codes s) k 0 ≡ get_or (slots_done s).codes k 0
  unfolding salvage_codes
  code_is k h = get_or-append (slots_done s).codes _ 0 k (omega (arith, (run s A).count))

  -- the bytes of a claimed block that is not the root's
  claimed-bytes : (b : ℕ) → In b cs → (In b ds → ⊥) → Same s w (512 * b) 512
  claimed-bytes b i out =
      let v = in_volume-split n b (every_in (in_volume n) cs b (run s A).done.inside i) in
      same_then s t w (512 * b) 512 ((run s A).since.bytes b v.0 out)
      ((end s A).beside (512 * b) 512 (omega (arith, v.0))
      (⊎_elim (λ l. inr (omega arith)) (λ l. inl l) (slot-beside n ds G (4 * length ds - 1) (omega (arith, G.some)) b out))
      (λ c f. ⊎_elim (λ l. inl (omega arith)) (λ l. inr (omega arith)) (lt-or-gt b c (λ q. f.unclaimed (subst (λ (z : ℕ). In z cs) q i)))))

  pub claimed-block : (b : ℕ) → In b cs → (In b ds → ⊥) → block w b ≡ block s b
  claimed-block b i out =
      let v = in_volume-split n b (every_in (in_volume n) cs b (run s A).done.inside i) in
      same-part s w (512 * b) 512 (512 * b) 512 (claimed-bytes b i out) (omega arith) (omega arith) (omega (arith, v.1, whole s A)) (len s A)

  module _ (k : ℕ) (h₁ : 1 ≤ k) (h₂ : k ≤ m) (c : (get_or (salvage_codes s) k 0 ≡ 0) ⊎ (get_or (salvage_codes s) k 0 ≡ 3)) where
    abbrev e : ℕ
    e = slot_at ds k

    held_whole : Whole s w e
    held_whole =
        whole-then s t w e (run s A).since.len (end s A).len (fits k h₂)
        ((run s A).held k h₁ h₂ (⊎_elim (λ z. inl (sym (code_is k h₂) ∙ z)) (λ z. inr (sym (code_is k h₂) ∙ z)) c))
        (final-slot n ds G t cs m (run s A).done (last-slot s A) w (end s A) k h₂)
        (λ f x i. (end s A).kept x (file-claimed n ds G t cs m (run s A).done short k h₁ h₂ f x i))

    held-entry : part w e 128 ≡ part s e 128
    held-entry = same-part s w e 128 e 128 held_whole.bytes (omega arith) (omega arith) (fits k h₂) (len s A)

    module _ (file : is_file (type_of s e) ≡ true) where
      file' : is_file (type_of w e) ≡ true
      file' = ap is_file (same-type s w e (len s A) (fits k h₂) held_whole.bytes) ∙ file

      blocks-kept : (b : ℕ) → In b (file_blocks w e) ⊎ In b (attribute_blocks w e) → block w b ≡ block s b
      blocks-kept b i =
          claimed-block b (file-claimed n ds G w cs m (done s A) short k h₁ h₂ file' b i) (file-not-root n ds G w cs m (done s A) short k h₁ h₂ file' b i)

      pub held-content : content w e ≡ content s e
      unfolding content
      held-content =
          rw (same-field s w e (len s A) (fits k h₂) held_whole.bytes 8 (omega arith))
          (ap (take (size_of s e)) (joined_same (block s) (block w) (file_blocks w e) (λ b i. blocks-kept b (inl i)) ∙ ap (joined (block s)) (held_whole.blocks file)))

      pub held-attributes : attributes w e ≡ attributes s e
      unfolding attributes
      held-attributes = joined_same (block s) (block w) (attribute_blocks w e) (λ b i. blocks-kept b (inr i)) ∙ ap (joined (block s)) (held_whole.second file)

  freed-gone : (b : ℕ) → Freed n t cs b → Gone s w b
  freed-gone b f =
      let v : next t b ≡ next s b = (run s A).since.values b (omega (arith, f.below)) f.unclaimed in
      record {
        above = f.above;
        below = f.below;
        was = λ z. f.used (v ∙ z);
        is = (end s A).free b f.above (omega (arith, f.below)) f.unclaimed;
      }

  gone-freed : (b : ℕ) → Gone s w b → Freed n t cs b
  gone-freed b g =
      let out : In b cs → ⊥ = λ i. claimed-used s A b i g.is in
      let v : next t b ≡ next s b = (run s A).since.values b (omega (arith, g.below)) out in
      record { above = g.above; below = g.below; unclaimed = out; used = λ z. g.was (sym v ∙ z) }

  slot_of : (x o : ℕ) → x < length ds → o < 4 → slot_at ds (4 * x + o) ≡ 512 * nth (next s) x (root_of s) + 128 * o
  slot_of x o h g =
      let a : (4 * x + o) / 4 ≡ x = omega arith in
      let b : (4 * x + o) % 4 ≡ o = omega arith in
      slot_at-is s (root_of s) (4 * x + o) (omega (arith, length-directory s (root_of s))) ∙ rw (a, b)

  module _ (i : ℕ) (O : Outside s w i) where
    header-byte : i < 512 → get_or w i 0 ≡ get_or s i 0
    header-byte h =
        ⊎_elim (λ l. same_byte t w 0 20 i (end s A).head (omega arith) (omega arith)) (λ l. same_byte t w 28 484 i (end s A).tail l (omega arith)) O.counts
        ∙ same_byte s t 0 512 i (run s A).since.front (omega arith) (omega arith)

    later-end : 512 * root_block n ≤ i → get_or w i 0 ≡ get_or t i 0
    later-end h =
        same_byte t w i 1 i ((end s A).beside i 1 h
        (⊎_elim (λ l. inl (omega arith)) (λ l. inr (omega arith)) (O.slots (4 * length ds - 1) (omega (arith, G.some)) (omega (arith, G.some))))
        (λ b f. ⊎_elim (λ l. inl (omega arith)) (λ l. inr (omega arith)) (lt-or-gt (i / 512) b (λ q. O.freed (subst (Gone s w) (sym q) (freed-gone b f)))))) (omega arith) (omega arith)

    root-byte : In (i / 512) ds → get_or t i 0 ≡ get_or s i 0
    root-byte j =
        let x = in-directory s (root_of s) (i / 512) j in
        let ld = length-directory s (root_of s) in
        let at : slot_at ds (4 * x.0 + i % 512 / 128) ≡ 512 * (i / 512) + 128 * (i % 512 / 128) =
        slot_of x.0 (i % 512 / 128) (omega (arith, x.1)) (omega arith) ∙ ap (λ (y : ℕ). 512 * y + 128 * (i % 512 / 128)) (sym x.2) in
        go (4 * x.0 + i % 512 / 128) (omega (arith, x.1)) (omega (arith, at)) (omega (arith, at))
      where
        go : (k : ℕ) → k < 4 * length ds → slot_at ds k ≤ i → i < slot_at ds k + 128 → get_or t i 0 ≡ get_or s i 0
        go zero h a b = same_byte s t (slot_at ds 0) 128 i ((run s A).since.later 0 (inl refl) h) a b
        go (suc k) h a b = absurd (⊎_elim (λ l. omega arith) (λ l. omega arith) (O.slots (suc k) (omega arith) h))

    pub outside_kept : get_or w i 0 ≡ get_or s i 0
    outside_kept = ⊎_elim header-byte (λ h. later-end h ∙ ⊎_elim (λ y. root-byte (has-eqb-in (i / 512) ds y)) (λ y. data-byte h y) (true-or-false (has eqb (i / 512) ds))) O.table
      where
        data-byte : 512 * root_block n ≤ i → has eqb (i / 512) ds ≡ false → get_or t i 0 ≡ get_or s i 0
        data-byte h y =
            same_byte s t (512 * (i / 512)) 512 i ((run s A).since.bytes (i / 512) (omega arith) (λ j. true-not-false (in-has-eqb (i / 512) ds j) y)) (omega arith) (omega arith)

  -- a freed block is blank
  pub gone-blank : (b : ℕ) → Gone s w b → block w b ≡ zeros 512
  gone-blank b g =
      let fit : 512 * b + 512 ≤ length w = omega (arith, len s A, whole s A, g.below) in
      ext_get_or 0 (block w b) (zeros 512) (length-block w b fit ∙ sym (length-zeros 512)) (λ i h.
      let l : i < 512 = omega (arith, length-block w b fit) in
      get_d_part w (512 * b) 512 i l ∙ (end s A).blank b (gone-freed b g) i l ∙ sym (get_d-zeros 512 i))

  -- a block that was free before, or is claimed, is not touched
  pub free-kept : (b : ℕ) → table_blocks n < b → b < n → next s b ≡ 0 → block w b ≡ block s b
  free-kept b h g z =
      let out : In b ds → ⊥ = λ i. root-used s A b i z in
      let far : (i : ℕ) → i < 512 → Outside s w (512 * b + i) = λ i l.
      let q : (512 * b + i) / 512 ≡ b = omega arith in
      record {
        counts = inr (omega arith);
        table = inr (omega arith);
        slots = λ k k₁ k₂. ⊎_elim (λ y. inr (omega arith)) (λ y. inl (omega arith)) (slot-beside n ds G k k₂ b out);
        freed = λ y. y.was (ap (next s) q ∙ z);
      } in
      same-part s w (512 * b) 512 (512 * b) 512 (λ i l. outside_kept (512 * b + i) (far i l)) (omega arith) (omega arith) (omega (arith, whole s A)) (len s A)

  -- the first slot, and the end slot whose type was right
  self-kept : Same s w (slot_at ds 0) 128
  self-kept =
      same_then s t w (slot_at ds 0) 128 ((run s A).since.later 0 (inl refl) (omega (arith, G.some)))
      (final-slot n ds G t cs m (run s A).done (last-slot s A) w (end s A) 0 (omega arith))

  end_kept : end_right t ds ≡ true → Same s w (end_at ds) 128
  unfolding end_right
  end_kept y = same_then s t w (end_at ds) 128 ((run s A).since.later (4 * length ds - 1) (inr (omega (arith, G.some))) (omega (arith, G.some))) byte
    where
      byte : Same t w (end_at ds) 128
      byte zero l = let q : end_at ds + 0 ≡ end_at ds = omega arith in rw q ((end s A).end ∙ sym (eqb-true _ 255 y))
      byte (suc i) l =
          let q : end_at ds + suc i ≡ end_at ds + 1 + i = omega arith in
          rw q ((end s A).beside (end_at ds + 1) 127 (omega (arith, slot-low n ds G (4 * length ds - 1) (omega (arith, G.some)))) (inr (omega arith))
          (λ b f. ⊎_elim (λ z. inl (omega arith)) (λ z. inr (omega arith))
          (slot-beside n ds G (4 * length ds - 1) (omega (arith, G.some)) b (λ i. f.unclaimed (claimed-root n ds G t cs m (run s A).done short b i)))) i (omega arith))

  pub codes-length : length (salvage_codes s) ≡ 4 * length ds
  unfolding salvage_codes
  codes-length = length-append (slots_done s).codes _ ∙ omega (arith, (run s A).count, G.some)

  end-code : get_or (salvage_codes s) (4 * length ds - 1) 0 ≡ cond (end_right t ds) 0 3
  unfolding salvage_codes
  end-code =
      let q : 4 * length ds - 1 ≡ length (slots_done s).codes + 0 = omega (arith, (run s A).count, G.some) in
      rw q (get_or-append-add (slots_done s).codes (cond (end_right t ds) 0 3 ∷ []) 0 0)

  -- THE ENTRY of a slot with code 0
  pub entry_kept : (k : ℕ) → k < 4 * length ds → get_or (salvage_codes s) k 0 ≡ 0 → part w (slot_at ds k) 128 ≡ part s (slot_at ds k) 128
  entry_kept k h c = go (ℕ_discrete k 0) (ℕ_discrete k (4 * length ds - 1))
    where
      in_image : slot_at ds k + 128 ≤ length s
      in_image = omega (arith, slot-high n ds G k h, whole s A)

      bytes : Same s w (slot_at ds k) 128 → part w (slot_at ds k) 128 ≡ part s (slot_at ds k) 128
      bytes f = same-part s w (slot_at ds k) 128 (slot_at ds k) 128 f (omega arith) (omega arith) in_image (len s A)

      right : (b : Bool) → cond {A = ℕ} b 0 3 ≡ 0 → b ≡ true
      right true e = refl
      right false e = absurd (omega arith)

      go : Dec (k ≡ 0) → Dec (k ≡ 4 * length ds - 1) → part w (slot_at ds k) 128 ≡ part s (slot_at ds k) 128
      go (yes z) d = bytes (subst (λ (j : ℕ). Same s w (slot_at ds j) 128) (sym z) self-kept)
      go (no z) (yes y) =
          bytes (subst (λ (j : ℕ). Same s w (slot_at ds j) 128) (sym y)
          (end_kept (right (end_right t ds) (sym end-code ∙ ap (λ (j : ℕ). get_or (salvage_codes s) j 0) (sym y) ∙ c))))
      go (no z) (no y) = held-entry k (omega arith) (omega arith) (inl c)

  -- WHAT THE CODES TELL: with 0 the table's entries of a file's blocks stay too; another code tells what was done
  pub values-kept : (k : ℕ) → 1 ≤ k → k ≤ m → get_or (salvage_codes s) k 0 ≡ 0 → is_file (type_of s (slot_at ds k)) ≡ true → (x : ℕ)
      → In x (file_blocks s (slot_at ds k)) ⊎ In x (attribute_blocks s (slot_at ds k)) → next w x ≡ next s x
  values-kept k h₁ h₂ c f x i =
      let W = held_whole k h₁ h₂ (inl c) in
      let f' : is_file (type_of w (slot_at ds k)) ≡ true = ap is_file (same-type s w (slot_at ds k) (len s A) (fits k h₂) W.bytes) ∙ f in
      let j = file-claimed n ds G w cs m (done s A) short k h₁ h₂ f' x (⊎_elim (λ b. inl (subst (In x) (sym (W.blocks f)) b)) (λ b. inr (subst (In x) (sym (W.second f)) b)) i) in
      (end s A).kept x j ∙ (run s A).still k h₁ h₂ (sym (code_is k h₂) ∙ c) f x i

  pub code-moved : (k : ℕ) → 1 ≤ k → k ≤ m → get_or (salvage_codes s) k 0 ≢ 0 → Moved (get_or (salvage_codes s) k 0) s w cs (slot_at ds k)
  code-moved k h₁ h₂ ne =
      rw (code_is k h₂)
      (moved_then (get_or (slots_done s).codes k 0) s t w cs cs (slot_at ds k) (end s A).len (omega (arith, fits k h₂, (run s A).since.len))
      ((run s A).moved k h₁ h₂ (λ z. ne (code_is k h₂ ∙ z)))
      (final-slot n ds G t cs m (run s A).done (last-slot s A) w (end s A) k h₂) (λ x i. i) (end s A).kept)

  pub first_code : get_or (salvage_codes s) 0 0 ≡ 0
  first_code = code_is 0 (omega arith) ∙ (run s A).first

  pub end_moved : get_or (salvage_codes s) (4 * length ds - 1) 0 ≢ 0 → (type_of s (end_at ds) ≢ 255) × (type_of w (end_at ds) ≡ 255)
  unfolding end_right
  end_moved ne = (
    λ z. ne (end-code ∙ rw (
      same-type s t (end_at ds) (run s A).since.len (omega (arith, slot-high n ds G (4 * length ds - 1) (omega (arith, G.some)), whole s A))
          ((run s A).since.later (4 * length ds - 1) (inr (omega (arith, G.some))) (omega (arith, G.some))),
      z,
    )),
    (end s A).end,
  )
