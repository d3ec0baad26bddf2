-- A clear and a set of attributes, the file in slot k of a directory of the tree: the image after it is sound, which blocks it writes to, and what it leaves.
use Prim.Native.Nat.{ℕ, ◌+◌, ◌-◌, ◌*◌, ◌/◌, ◌≤◌, ◌<◌}
use mathlib.Core.Path.{◌≡◌, refl, ap, ◌∙◌}
use mathlib.Core.Bool.{true}
use mathlib.Core.List.{List, ◌∷◌, ◌++◌, []}
use mathlib.Core.Logic.{inr, inl, ◌≢◌}
use native.Mathlib.Omega.{arith}
use lib.ListN.{length, get_or, length-append}
use lib.Dec.{eqb}
use Rattle.layout.specs.Lists.{joined}
use Rattle.layout.specs.Bytes.{be32, bytes4, part, block, zeros}
use Rattle.layout.specs.Geometry.{block_count, table_blocks}
use Rattle.layout.specs.Table.{next, chain}
use Rattle.layout.specs.Directory.{slot_at, type_of, first_block, attribute_block_of, attribute_size_of, attribute_blocks, attributes, is_file, directory, dirs}
use Rattle.layout.specs.Check.{check}
use Rattle.layout.specs.Paths.{home, path_slot, entry_of, file_refusal}
use Rattle.volume.specs.Entries.{grown, blocks_named}
use Rattle.volume.specs.Write.{put}
use Rattle.volume.specs.Attributes.{emptied, new_attributes, set_attribute_fields, set_attributes_at, clear_attributes_at, set_attributes_named, clear_attributes_named, set_attributes_refusal}
use Rattle.volume.proofs.Laws.Table.{grown-used}
use Rattle.volume.proofs.Laws.Frame.{blocks-not}
use Rattle.volume.proofs.Laws.Data.{joined-put}
use Rattle.volume.proofs.Laws.Places.{SetGiven, file-at-path, set-path, set_given}
use Rattle.volume.proofs.Laws.Fields.{EntryKept, fields-same, updated-type, updated-field, updated-kept, updated-flags, updated-agree, updated-next, updated-first, updated-size, updated-slot, updated-sound}
use Rattle.volume.proofs.Laws.Attributes.{old_below, old-above, old_apart, old-outside, freeing, emptied-length, emptied-agree, emptied-next, emptied-zero, emptied-used, set-fresh, set-length, set-bytes-fit, set-linked, set-chain, set-outside, filling, first_small, set-fields, larger-length, later-agree, full-agree, both_below, both-apart, full-next, full-kept}
use Rattle.volume.proofs.Laws.Unchanged.{Bounded, entry-bounded, value-kept, block-kept, file-kept}
use Rattle.layout.proofs.Laws.Bytes.{length-bytes4, splice-whole}
use Rattle.layout.proofs.Laws.Lists.{In, joined_same}
use Rattle.layout.proofs.Laws.Frames.{Agree, agree-block, same-be32}
use Rattle.layout.proofs.Laws.Chains.{nth, chain-agree, chain-in}
use Rattle.layout.proofs.Laws.Trees.{size_at}
use Rattle.layout.proofs.Laws.Sound.{Sound, Entry, Owner, held_at, sound, check-zero}
use Rattle.layout.proofs.Laws.Slots.{slot-entry, entry-low, entry-high}
use Rattle.layout.proofs.Laws.Files.{AttributeFields, length-blocks}
use Rattle.layout.proofs.Laws.Owners.{blocks_at, Fresh}
use Rattle.layout.proofs.Laws.Counts.{occupied-most, occupied-same}
use Rattle.layout.proofs.Laws.Changed.{OneSlot}
use Rattle.layout.proofs.Laws.Steps.{Midway}
use Rattle.layout.proofs.Laws.Others.{SameFile}

module _ (s : List ℕ) (S : Sound s) (d : ℕ × ℕ) (di : In d (dirs s)) (k : ℕ) (k₁ : 1 ≤ k) (k₂ : k < 4 * size_at s d.0 - 1)
    (file : is_file (type_of s (slot_at (directory s d.0) k)) ≡ true)
  where
    abbrev n : ℕ
    n = block_count s

    abbrev e : ℕ
    e = slot_at (directory s d.0) k

    E : Entry s e
    E = slot-entry s S d di k (omega arith)

    abbrev old : List ℕ
    old = attribute_blocks s e

    -- steps that write to blocks bs and what they name, then the fields
    module _ (t : List ℕ) (b c : ℕ) (I : Midway s (dirs s) (Owner s) (first_block s) (held_at s) (e + 28) t b c) (first : ℕ)
        (bs : List ℕ) (within : Agree s t (blocks_named bs)) (below : (q : ℕ) → In q bs → q < n)
        (values : (y : ℕ) → y < 128 * table_blocks n → (In y bs → ⊥) → next t y ≡ next s y)
        (apart : (a : ℕ) → Owner s a → a ≢ e + 28 → (q : ℕ) → In q (blocks_at s a) → In q bs → ⊥)
      where
        abbrev t' : List ℕ
        t' = set_attribute_fields t e first c

        changed-bounded : Bounded s t' (e / 512 ∷ blocks_named bs)
        unfolding set_attribute_fields
        changed-bounded =
            let l : length (bytes4 first ++ bytes4 c) ≡ 8 = simp (length-append, length-bytes4) in
            entry-bounded s S e E t bs within below (e + 32) (bytes4 first ++ bytes4 c) (omega arith) (omega arith)

        kept_next : (y : ℕ) → y < 128 * table_blocks n → (In y bs → ⊥) → next t' y ≡ next s y
        kept_next y h ne = updated-next s S e E file t b c I first y h ∙ values y h ne

        -- the other owners
        changed-next : (a : ℕ) → Owner s a → a ≢ e + 28 → ((x : ℕ × ℕ) → In x (dirs s) → a ≢ 512 * x.0) → (q : ℕ) → In q (blocks_at s a) → next t' q ≡ next s q
        changed-next a O ne no_self = value-kept s S e E bs t' changed-bounded.agree below kept_next a O no_self (apart a O ne)

        changed_block : (a : ℕ) → Owner s a → a ≢ e + 28 → ((x : ℕ × ℕ) → In x (dirs s) → a ≢ 512 * x.0) → (q : ℕ) → In q (blocks_at s a) → block t' q ≡ block s q
        changed_block a O ne no_self = block-kept s S e E bs t' changed-bounded.agree below kept_next a O no_self (apart a O ne)

        -- the file itself
        changed-content : SameFile s t' e
        changed-content =
            let field = updated-field s S e E file t b c I first in
            file-kept s S e E bs t' changed-bounded.agree below kept_next e E file (updated-type s S e E file t b c I first) (field 4 (omega arith)) (field 12 (omega arith)) (field 8 (omega arith))
            (apart e (inl E) (λ q. omega arith))

    -- CLEAR
    abbrev z : ℕ
    z = (freeing s S e E file).0

    I : Midway s (dirs s) (Owner s) (first_block s) (held_at s) (e + 28) (emptied s e) (freeing s S e E file).0 0
    I = (freeing s S e E file).1

    none : AttributeFields 0 0
    none = inl (refl, refl)

    pub cleared-sound : Sound (clear_attributes_at s e)
    unfolding clear_attributes_at
    cleared-sound = updated-sound s S d di k k₁ k₂ file (emptied s e) z 0 I 0 (omega arith) none (λ pos. absurd (omega arith))

    pub cleared-bounded : Bounded s (clear_attributes_at s e) (clear_attributes_named s e)
    unfolding clear_attributes_at clear_attributes_named
    cleared-bounded = changed-bounded (emptied s e) z 0 I 0 old (emptied-agree s S e E file) (old_below s S e E file) (emptied-next s S e E file) (old_apart s S e E file)

    pub cleared-content : SameFile s (clear_attributes_at s e) e
    unfolding clear_attributes_at
    cleared-content = changed-content (emptied s e) z 0 I 0 old (emptied-agree s S e E file) (old_below s S e E file) (emptied-next s S e E file) (old_apart s S e E file)

    pub cleared-next : (a : ℕ) → Owner s a → a ≢ e + 28 → ((x : ℕ × ℕ) → In x (dirs s) → a ≢ 512 * x.0) → (q : ℕ) → In q (blocks_at s a) → next (clear_attributes_at s e) q ≡ next s q
    unfolding clear_attributes_at
    cleared-next = changed-next (emptied s e) z 0 I 0 old (emptied-agree s S e E file) (old_below s S e E file) (emptied-next s S e E file) (old_apart s S e E file)

    pub cleared-block : (a : ℕ) → Owner s a → a ≢ e + 28 → ((x : ℕ × ℕ) → In x (dirs s) → a ≢ 512 * x.0) → (q : ℕ) → In q (blocks_at s a) → block (clear_attributes_at s e) q ≡ block s q
    unfolding clear_attributes_at
    cleared-block = changed_block (emptied s e) z 0 I 0 old (emptied-agree s S e E file) (old_below s S e E file) (emptied-next s S e E file) (old_apart s S e E file)

    pub cleared-slot : OneSlot s (dirs s) (clear_attributes_at s e) e
    unfolding clear_attributes_at
    cleared-slot = updated-slot s S d di k k₁ k₂ file (emptied s e) z 0 I 0

    pub cleared-entry : EntryKept s (clear_attributes_at s e) e
    unfolding clear_attributes_at
    cleared-entry = updated-kept s S e E file (emptied s e) z 0 I 0

    pub cleared-flags : part (clear_attributes_at s e) (e + 40) 4 ≡ part s (e + 40) 4
    unfolding clear_attributes_at
    cleared-flags = updated-flags s S e E file (emptied s e) z 0 I 0

    old-far : (q : ℕ) → In q old → In q (e / 512 ∷ []) → ⊥
    old-far q i (inr x') = elim x' [ ]
    old-far q i (inl y) = old-outside s S e E file q i (rw y E.within-tree)

    pub cleared-zero : (q : ℕ) → In q (attribute_blocks s e) → block (clear_attributes_at s e) q ≡ zeros 512
    unfolding clear_attributes_at
    cleared-zero q i = agree-block q (updated-agree s S e E file (emptied s e) z 0 I 0) (old-far q i) ∙ emptied-zero s S e E file q i

    pub cleared-table : (y : ℕ) → y < 128 * table_blocks n → next (clear_attributes_at s e) y ≡ next (emptied s e) y
    unfolding clear_attributes_at
    cleared-table = updated-next s S e E file (emptied s e) z 0 I 0

    pub cleared-used : be32 s 20 ≡ attribute_size_of s e + be32 (clear_attributes_at s e) 20
    unfolding clear_attributes_at
    cleared-used =
        let h = entry-high s S e E in
        let g = entry-low s S e E in
        let l = I.len in
        let u = emptied-used s S e E file in
        let q = same-be32 (emptied s e) (set_attribute_fields (emptied s e) e 0 0) 0 28 20 (fields-same (emptied s e) e 0 0 (omega arith) 0 28 (inl (omega arith))) (omega arith) (omega arith) in
        omega arith

    pub cleared-none : (attribute_blocks (clear_attributes_at s e) e ≡ []) × (attributes (clear_attributes_at s e) e ≡ [])
    unfolding clear_attributes_at attributes attribute_blocks chain
    cleared-none = let q : attribute_size_of (clear_attributes_at s e) e ≡ 0 = updated-size s S e E file (emptied s e) z 0 I 0 (omega arith) none in (rw q, rw q)

    -- SET
    module _ (bytes : List ℕ) (R : SetGiven s e (length bytes)) where
      abbrev new : List ℕ
      new = new_attributes s e (length bytes)

      abbrev first : ℕ
      first = get_or new 0 0

      abbrev larger : List ℕ
      larger = grown (emptied s e) n 0 new

      abbrev full : List ℕ
      full = put larger new 0 bytes

      abbrev done : List ℕ
      done = set_attribute_fields full e first (length new)

      J : Midway s (dirs s) (Owner s) (first_block s) (held_at s) (e + 28) full first (length new)
      J = filling s S e E file bytes R

      fresh : Fresh n (next (emptied s e)) new
      fresh = set-fresh s S e E file bytes R

      pub set-sound : Sound (set_attributes_at s e bytes)
      unfolding set_attributes_at
      set-sound = updated-sound s S d di k k₁ k₂ file full first (length new) J first (first_small s S e E file bytes R) (set-fields s S e E file bytes R) (λ pos. refl)

      pub set-bounded : Bounded s (set_attributes_at s e bytes) (set_attributes_named s e (length bytes))
      unfolding set_attributes_at set_attributes_named
      set-bounded = changed-bounded full first (length new) J first (old ++ new) (full-agree s S e E file bytes R) (both_below s S e E file bytes R) (full-kept s S e E file bytes R) (both-apart s S e E file bytes R)

      pub set-content : SameFile s (set_attributes_at s e bytes) e
      unfolding set_attributes_at
      set-content = changed-content full first (length new) J first (old ++ new) (full-agree s S e E file bytes R) (both_below s S e E file bytes R) (full-kept s S e E file bytes R) (both-apart s S e E file bytes R)

      pub set-next : (a : ℕ) → Owner s a → a ≢ e + 28 → ((x : ℕ × ℕ) → In x (dirs s) → a ≢ 512 * x.0) → (q : ℕ) → In q (blocks_at s a) → next (set_attributes_at s e bytes) q ≡ next s q
      unfolding set_attributes_at
      set-next = changed-next full first (length new) J first (old ++ new) (full-agree s S e E file bytes R) (both_below s S e E file bytes R) (full-kept s S e E file bytes R) (both-apart s S e E file bytes R)

      pub set-block : (a : ℕ) → Owner s a → a ≢ e + 28 → ((x : ℕ × ℕ) → In x (dirs s) → a ≢ 512 * x.0) → (q : ℕ) → In q (blocks_at s a) → block (set_attributes_at s e bytes) q ≡ block s q
      unfolding set_attributes_at
      set-block = changed_block full first (length new) J first (old ++ new) (full-agree s S e E file bytes R) (both_below s S e E file bytes R) (full-kept s S e E file bytes R) (both-apart s S e E file bytes R)

      pub set-slot : OneSlot s (dirs s) (set_attributes_at s e bytes) e
      unfolding set_attributes_at
      set-slot = updated-slot s S d di k k₁ k₂ file full first (length new) J first

      pub set-entry : EntryKept s (set_attributes_at s e bytes) e
      unfolding set_attributes_at
      set-entry = updated-kept s S e E file full first (length new) J first

      pub set-flags : part (set_attributes_at s e bytes) (e + 40) 4 ≡ part s (e + 40) 4
      unfolding set_attributes_at
      set-flags = updated-flags s S e E file full first (length new) J first

      -- an old block that is not taken again is zero
      pub set-zero : (q : ℕ) → In q (attribute_blocks s e) → (In q (new_attributes s e (length bytes)) → ⊥) → block (set_attributes_at s e bytes) q ≡ zeros 512
      unfolding set_attributes_at
      set-zero q i ne =
          agree-block q (updated-agree s S e E file full first (length new) J first) (old-far q i)
          ∙ agree-block q (later-agree s S e E file bytes R) (blocks-not n new fresh.below q (old-above s S e E file q i) ne)
          ∙ emptied-zero s S e E file q i

      pub set-used : be32 s 20 + length bytes / 512 ≡ attribute_size_of s e + be32 (set_attributes_at s e bytes) 20
      unfolding set_attributes_at
      set-used =
          let h = entry-high s S e E in
          let low = entry-low s S e E in
          let q = J.len in
          let u = emptied-used s S e E file in
          let w = S.used-is in
          let m = S.most in
          let o = occupied-most (next s) n in
          let l = set-length s S e E file bytes R in
          let r = R.few in
          let g = grown-used n S.least new (emptied s e) 0 (emptied-length s S e E file) (omega (arith, S.least)) fresh.below (omega arith) in
          let i = (set-linked s S e E file bytes R).used in
          let v = J.used in
          let same = occupied-same (next larger) (next full) n (λ y h. ap (λ (x : ℕ). eqb x 0) (full-next s S e E file bytes R y (omega arith))) in
          let last = same-be32 full done 0 28 20 (fields-same full e first (length new) (omega arith) 0 28 (inl (omega arith))) (omega arith) (omega arith) in
          omega arith

      -- THE ATTRIBUTES READ BACK
      done_next : (y : ℕ) → y < 128 * table_blocks n → next done y ≡ next larger y
      done_next y h = updated-next s S e E file full first (length new) J first y h ∙ full-next s S e E file bytes R y h

      new-at : (y : ℕ) → y < length new → In (nth (next larger) y first) new
      new-at y h = rw (set-chain s S e E file bytes R) at (chain-in (next larger) first (length new) (nth (next larger) y first) y h refl)

      done-blocks : attribute_blocks done e ≡ new
      unfolding attribute_blocks
      done-blocks =
          let small = first_small s S e E file bytes R in
          let right = set-fields s S e E file bytes R in
          let p : attribute_block_of done e ≡ first = updated-first s S e E file full first (length new) J first small right in
          let q : attribute_size_of done e ≡ length new = updated-size s S e E file full first (length new) J first small right in
          rw (p, q)
          (chain-agree (next larger) (next done) first (length new) (λ y h. done_next (nth (next larger) y first) (omega (arith, fresh.below (nth (next larger) y first) (new-at y h))))
          ∙ set-chain s S e E file bytes R)

      new-far : (q : ℕ) → In q new → In q (e / 512 ∷ []) → ⊥
      new-far q i (inr x') = elim x' [ ]
      new-far q i (inl y) = set-outside s S e E file bytes R q i (rw y E.within-tree)

      done-bytes : attributes done e ≡ bytes
      unfolding attributes
      done-bytes =
          let long = larger-length s S e E file bytes R in
          let fit = set-bytes-fit s S e E file bytes R in
          let l : length (joined (block larger) new) ≡ 512 * length new = length-blocks larger new (λ x m. omega (arith, long, fresh.below x m)) in
          rw done-blocks (joined_same (block full) (block done) new (λ q i. agree-block q (updated-agree s S e E file full first (length new) J first) (new-far q i))
          ∙ joined-put n S.least new larger 0 bytes long fresh.below fresh.distinct-all (omega arith)
          ∙ splice-whole (joined (block larger) new) bytes (omega arith))

      pub set-table : (y : ℕ) → y < 128 * table_blocks n → next (set_attributes_at s e bytes) y ≡ next (grown (emptied s e) (block_count s) 0 (new_attributes s e (length bytes))) y
      unfolding set_attributes_at
      set-table = done_next

      pub set-blocks : attribute_blocks (set_attributes_at s e bytes) e ≡ new_attributes s e (length bytes)
      unfolding set_attributes_at
      set-blocks = done-blocks

      pub set-bytes : attributes (set_attributes_at s e bytes) e ≡ bytes
      unfolding set_attributes_at
      set-bytes = done-bytes

-- by paths
pub kept_set : (s path bytes : List ℕ) → check s ≡ 0 → set_attributes_refusal s path (length bytes) ≡ 0 → check (set_attributes_at s (entry_of is_file s path) bytes) ≡ 0
unfolding entry_of
kept_set s path bytes ok r =
    let A = file-at-path s path (set-path s path (length bytes) r) in
    let N = A.named in
    check-zero _ (set-sound s (sound s ok) (home s path, A.level) A.home-in (path_slot is_file s path) N.low N.high N.typed bytes (set_given s path (length bytes) r))

pub kept-clear : (s path : List ℕ) → check s ≡ 0 → file_refusal s path ≡ 0 → check (clear_attributes_at s (entry_of is_file s path)) ≡ 0
unfolding entry_of
kept-clear s path ok r =
    let A = file-at-path s path r in
    let N = A.named in
    check-zero _ (cleared-sound s (sound s ok) (home s path, A.level) A.home-in (path_slot is_file s path) N.low N.high N.typed)
