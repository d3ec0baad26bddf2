-- What a change of one entry of a file leaves: the tree, the bytes of every other entry, the blocks and content of every other file, where every path
-- leads that does not name it.
use Prim.Native.Nat.{ℕ, zero, suc, ◌+◌, ◌-◌, ◌*◌, ◌/◌, ◌%◌, ◌≤◌, ◌<◌}
use mathlib.Core.Path.{◌≡◌, refl, sym, ap, ◌∙◌, subst}
use mathlib.Core.Bool.{Bool, true, false, ◌&&◌, cond, or-true}
use mathlib.Core.List.{List, [], ◌∷◌}
use mathlib.Core.Logic.{◌⊎◌, inl, inr, ⊎_elim, ◌≢◌}
use native.Mathlib.Omega.{arith}
use native.Mathlib.Decide.{ℕ_discrete}
use borrow.Author.Tests.{eq-eqb, leb-true}
use lib.ListN.{length, get_or, take}
use lib.Dec.{eqb}
use Rattle.layout.specs.Limits.{max_levels}
use Rattle.layout.specs.Lists.{same, joined}
use Rattle.layout.specs.Bytes.{be32, part, block}
use Rattle.layout.specs.Geometry.{block_count, root_block}
use Rattle.layout.specs.Table.{next}
use Rattle.layout.specs.Directory.{slot_at, slots, type_of, first_block, size_of, blocks_of, attribute_block_of, attribute_size_of, is_file, is_directory, name_of, slot_of, directory, root_of, dirs, file_blocks, content, attribute_blocks, attributes}
use Rattle.layout.specs.Looks.{lookup_refusal, lookup}
use Rattle.layout.specs.Check.{check}
use Rattle.layout.proofs.Laws.Bytes.{be32-part}
use Rattle.layout.specs.Paths.{file_refusal, path_ok, parts, leading, last_part, shallow, child_of, resolve, home, path_slot, entry_of}
use Rattle.layout.proofs.Laws.Tests.{and-join, true-not-false}
use Rattle.layout.proofs.Laws.Lists.{In, joined_same}
use Rattle.layout.proofs.Laws.Joins.{select-agree}
use Rattle.layout.proofs.Laws.Names.{same_refl}
use Rattle.layout.proofs.Laws.Chains.{nth, chain-agree, chain-in}
use Rattle.layout.proofs.Laws.Frames.{same-part}
use Rattle.layout.proofs.Laws.Trees.{size_at, root_in, same-slot-place}
use Rattle.layout.proofs.Laws.Sound.{Sound, Entry, held_at, Owner, own_held, second-held, second-first}
use Rattle.layout.proofs.Laws.Slots.{in-slots, slot-entry, entry-high}
use Rattle.layout.proofs.Laws.Owners.{blocks_at, file-blocks, second-blocks, file-no-self, second-no-self, second}
use Rattle.layout.proofs.Laws.Paths.{slot-named, child-in-tree, home-in-tree, path-named, path-home}
use Rattle.layout.proofs.Laws.Changed.{OneSlot, type-stays, field-stays, name-stays, blocks-stay}
use Rattle.layout.specs.Claims.{Reached, SameAttributes, Untouched}

-- THE CHAIN OF AN OWNER that stays, and its bytes
module _ (s s' : List ℕ) (a : ℕ) (size : held_at s' a ≡ held_at s a) (first : first_block s' a ≡ first_block s a) (values : (q : ℕ) → In q (blocks_at s a) → next s' q ≡ next s q) where
  pub owner-blocks : blocks_at s' a ≡ blocks_at s a
  owner-blocks =
      rw (size, first) (chain-agree (next s) (next s') (first_block s a) (held_at s a)
      (λ y h. values (nth (next s) y (first_block s a)) (chain-in (next s) (first_block s a) (held_at s a) (nth (next s) y (first_block s a)) y h refl)))

  pub owner-bytes : ((q : ℕ) → In q (blocks_at s a) → block s' q ≡ block s q) → joined (block s') (blocks_at s' a) ≡ joined (block s) (blocks_at s a)
  owner-bytes stuff = rw owner-blocks (joined_same (block s) (block s') (blocks_at s a) stuff)

-- A FILE that stays: its own chain and content; its attributes
pub record SameFile (s s' : List ℕ) (e : ℕ) : Type 0 where
  pub blocks : file_blocks s' e ≡ file_blocks s e
  pub contents : content s' e ≡ content s e

module _ (s s' : List ℕ) (e : ℕ) (lined : e % 128 ≡ 0) (file : is_file (type_of s e) ≡ true) (type : type_of s' e ≡ type_of s e) where
  own_is : (t : List ℕ) → type_of t e ≡ type_of s e → blocks_at t e ≡ file_blocks t e
  unfolding file_blocks
  own_is t q = rw (own_held t e lined, q, file, or-true (eqb (type_of s e) 1))

  second_is : (t : List ℕ) → type_of t e ≡ type_of s e → blocks_at t (e + 28) ≡ attribute_blocks t e
  unfolding attribute_blocks
  second_is t q = rw (second-held t e lined, second-first t e, q, file)

  module _ (first : first_block s' e ≡ first_block s e) (count : blocks_of s' e ≡ blocks_of s e) (size : size_of s' e ≡ size_of s e)
      (values : (q : ℕ) → In q (file_blocks s e) → next s' q ≡ next s q) (stuff : (q : ℕ) → In q (file_blocks s e) → block s' q ≡ block s q)
    where
      held-is : held_at s' e ≡ held_at s e
      held-is = rw (own_held s' e lined, own_held s e lined, type, count)

      blocks_is : file_blocks s' e ≡ file_blocks s e
      blocks_is = sym (own_is s' type) ∙ owner-blocks s s' e held-is first (λ q i. values q (rw (own_is s refl) at i)) ∙ own_is s refl

      pub same-file : SameFile s s' e
      unfolding content
      same-file =
          record { blocks = blocks_is; contents = rw (size, blocks_is) (ap (take (size_of s e)) (joined_same (block s) (block s') (file_blocks s e) stuff)) }

  module _ (first : attribute_block_of s' e ≡ attribute_block_of s e) (count : attribute_size_of s' e ≡ attribute_size_of s e)
      (values : (q : ℕ) → In q (attribute_blocks s e) → next s' q ≡ next s q) (stuff : (q : ℕ) → In q (attribute_blocks s e) → block s' q ≡ block s q)
    where
      held-second-is : held_at s' (e + 28) ≡ held_at s (e + 28)
      held-second-is = rw (second-held s' e lined, second-held s e lined, type, count)

      second-blocks-is : attribute_blocks s' e ≡ attribute_blocks s e
      second-blocks-is =
          sym (second_is s' type) ∙ owner-blocks s s' (e + 28) held-second-is (second-first s' e ∙ first ∙ sym (second-first s e)) (λ q i. values q (rw (second_is s refl) at i)) ∙ second_is s refl

      pub same-attributes : SameAttributes s s' e
      unfolding attributes
      same-attributes = record { size = count; blocks = second-blocks-is; bytes = rw second-blocks-is (joined_same (block s) (block s') (attribute_blocks s e) stuff) }

module _ (s s' : List ℕ) (S : Sound s) (d₀ : ℕ × ℕ) (i₀ : In d₀ (dirs s)) (k : ℕ) (k₁ : 1 ≤ k) (k₂ : k < 4 * size_at s d₀.0 - 1) where
  abbrev e : ℕ
  e = slot_at (directory s d₀.0) k

  all : (d : ℕ × ℕ) → In d (dirs s) → In d (dirs s)
  all d i = i

  module _ (O : OneSlot s (dirs s) s' e) where
    -- an entry that is not e
    module _ (a : ℕ) (E : Entry s a) (ne : a ≢ e) where
      pub other-bytes : part s' a 128 ≡ part s a 128
      other-bytes = same-part s s' a 128 a 128 (O.slots a E ne) (omega arith) (omega arith) (entry-high s S a E) O.len

      pub other-type : type_of s' a ≡ type_of s a
      other-type = type-stays s s' S (dirs s) all d₀ i₀ k k₁ k₂ O a E ne

      pub other-field : (i : ℕ) → i + 4 ≤ 128 → be32 s' (a + i) ≡ be32 s (a + i)
      other-field = field-stays s s' S (dirs s) all d₀ i₀ k k₁ k₂ O a E ne

      pub other-name : name_of s' a ≡ name_of s a
      other-name = name-stays s s' S (dirs s) all d₀ i₀ k k₁ k₂ O a E ne

      -- a file: its own chain, and its attributes
      module _ (file : is_file (type_of s a) ≡ true) where
        pub other-file : ((q : ℕ) → In q (file_blocks s a) → next s' q ≡ next s q) → ((q : ℕ) → In q (file_blocks s a) → block s' q ≡ block s q) → SameFile s s' a
        other-file = same-file s s' a E.aligned file other-type (other-field 4 (omega arith)) (other-field 12 (omega arith)) (other-field 8 (omega arith))

        pub other-attributes : ((q : ℕ) → In q (attribute_blocks s a) → next s' q ≡ next s q) → ((q : ℕ) → In q (attribute_blocks s a) → block s' q ≡ block s q) → SameAttributes s s' a
        other-attributes = same-attributes s s' a E.aligned file other-type (other-field 32 (omega arith)) (other-field 36 (omega arith))

    -- a slot of a name, where the test at e is the same before and after
    pub test-slot : (type : ℕ → Bool) (name : List ℕ) (d : ℕ × ℕ) (di : In d (dirs s))
        → ((j : ℕ) → j < 4 * size_at s d.0 → slot_at (directory s d.0) j ≡ e → (type (type_of s' e) && same (name_of s' e) name) ≡ (type (type_of s e) && same (name_of s e) name))
        → slot_of type s' (directory s' d.0) name ≡ slot_of type s (directory s d.0) name
    unfolding slot_of
    test-slot type name d di f =
        rw (blocks-stay s s' S (dirs s) all d₀ i₀ k k₁ k₂ O d di)
        (ap (λ (l : List ℕ). get_or l 0 0) (select-agree (λ j. type (type_of s (slot_at (directory s d.0) j)) && same (name_of s (slot_at (directory s d.0) j)) name)
        (λ j. type (type_of s' (slot_at (directory s d.0) j)) && same (name_of s' (slot_at (directory s d.0) j)) name) (slots (directory s d.0))
        (λ j i. let w = in-slots s d.0 j i in at j (omega arith) (ℕ_discrete (slot_at (directory s d.0) j) e))))
      where
        at : (j : ℕ) → j < 4 * size_at s d.0 → Dec (slot_at (directory s d.0) j ≡ e)
            → (type (type_of s' (slot_at (directory s d.0) j)) && same (name_of s' (slot_at (directory s d.0) j)) name)
            ≡ (type (type_of s (slot_at (directory s d.0) j)) && same (name_of s (slot_at (directory s d.0) j)) name)
        at j h (yes q) = rw q (f j h q)
        at j h (no ne) = let E = slot-entry s S d di j h in rw (other-type (slot_at (directory s d.0) j) E ne, other-name (slot_at (directory s d.0) j) E ne)

    module _ (was : is_directory (type_of s e) ≡ false) (now : is_directory (type_of s' e) ≡ false) where
      -- one part of a path
      pub child-same : (b left : ℕ) → In (b, left) (dirs s) → (name : List ℕ) → child_of s' b name ≡ child_of s b name
      unfolding child_of
      child-same b left i name =
          let q : slot_of is_directory s' (directory s' b) name ≡ slot_of is_directory s (directory s b) name = test-slot is_directory name (b, left) i (λ j l z. rw (was, now)) in
          rw (q, blocks-stay s s' S (dirs s) all d₀ i₀ k k₁ k₂ O (b, left) i) (go (ℕ_discrete (slot_of is_directory s (directory s b) name) 0))
        where
          x : ℕ
          x = slot_of is_directory s (directory s b) name

          go : Dec (slot_of is_directory s (directory s b) name ≡ 0)
              → cond (eqb (slot_of is_directory s (directory s b) name) 0) 0 (first_block s' (slot_at (directory s b) (slot_of is_directory s (directory s b) name)))
              ≡ cond (eqb (slot_of is_directory s (directory s b) name) 0) 0 (first_block s (slot_at (directory s b) (slot_of is_directory s (directory s b) name)))
          go (yes z) = rw (eq-eqb _ 0 z)
          go (no ne) =
              let N = slot-named is_directory s b name ne in
              let a : ℕ = slot_at (directory s b) (slot_of is_directory s (directory s b) name) in
              let h = N.high in
              let E = slot-entry s S (b, left) i (slot_of is_directory s (directory s b) name) (omega arith) in
              let away : a ≢ e = λ p. true-not-false {a = is_directory (type_of s e)} (subst (λ (w : ℕ). is_directory (type_of s w) ≡ true) p N.typed) was in
              rw (other-field a E away 4 (omega arith))

      -- all parts
      pub resolve_same : (ps : List (List ℕ)) (b left : ℕ) → In (b, left) (dirs s) → length ps ≤ left → resolve s' b ps ≡ resolve s b ps
      unfolding resolve
      resolve_same [] b left i h = refl
      resolve_same (p ∷ ps) b zero i h = absurd (omega arith)
      resolve_same (p ∷ ps) b (suc left) i h =
          rw (child-same b (suc left) i p) (go (ℕ_discrete (child_of s b p) 0) (λ m. resolve_same ps (child_of s b p) left m (omega arith)))
        where
          go : Dec (child_of s b p ≡ 0) → (In (child_of s b p, left) (dirs s) → resolve s' (child_of s b p) ps ≡ resolve s (child_of s b p) ps)
              → cond (eqb (child_of s b p) 0) 0 (resolve s' (child_of s b p) ps) ≡ cond (eqb (child_of s b p) 0) 0 (resolve s (child_of s b p) ps)
          go (yes z) ih = rw (eq-eqb _ 0 z)
          go (no ne) ih = rw (ih (child-in-tree s b p left i ne))

      pub home_same : (path : List ℕ) → shallow (leading (parts path)) ≡ true → home s' path ≡ home s path
      unfolding home shallow
      home_same path h =
          ap (λ (x : ℕ). resolve s' (root_block (x / 512)) (leading (parts path))) O.len
          ∙ resolve_same (leading (parts path)) (root_of s) max_levels (root_in s (block_count s)) (leb-true _ _ h)

      -- A PATH THAT DOES NOT NAME THE ENTRY: in another directory, or with a name that it has neither before nor after
      module _ (path : List ℕ) (h : shallow (leading (parts path)) ≡ true) (type : ℕ → Bool)
          (aside : (home s path ≢ d₀.0) ⊎ ((type (type_of s' e) && same (name_of s' e) (last_part (parts path))) ≡ (type (type_of s e) && same (name_of s e) (last_part (parts path)))))
        where
          pub path-same : path_slot type s' path ≡ path_slot type s path
          unfolding path_slot
          path-same = rw (home_same path h) (go (ℕ_discrete (home s path) 0))
            where
              go : Dec (home s path ≡ 0)
                  → cond (eqb (home s path) 0) 0 (slot_of type s' (directory s' (home s path)) (last_part (parts path)))
                  ≡ cond (eqb (home s path) 0) 0 (slot_of type s (directory s (home s path)) (last_part (parts path)))
              go (yes z) = rw (eq-eqb _ 0 z)
              go (no ne) =
                  let i = home-in-tree s path h ne in
                  let l : ℕ = max_levels - length (leading (parts path)) in
                  ap (λ (x : ℕ). cond (eqb (home s path) 0) 0 x)
                  (test-slot type (last_part (parts path)) (home s path, l) i
                  (λ j g q. ⊎_elim (λ away. absurd (away (elsewhere l i j g q))) (λ t. t) aside))
                where
                  elsewhere : (l : ℕ) → In (home s path, l) (dirs s) → (j : ℕ) → j < 4 * size_at s (home s path) → slot_at (directory s (home s path)) j ≡ e → home s path ≡ d₀.0
                  elsewhere l i j g q =
                      ap (λ (w : ℕ × ℕ). w.0) (same-slot-place s (block_count s) S.tree S.least (home s path, l) d₀ i i₀ j k g (omega arith) q).0

          pub entry-same : path_slot type s path ≢ 0 → entry_of type s' path ≡ entry_of type s path
          unfolding entry_of
          entry-same ne =
              rw (home_same path h, path-same) (ap (λ (ds : List ℕ). slot_at ds (path_slot type s path))
              (blocks-stay s s' S (dirs s) all d₀ i₀ k k₁ k₂ O (home s path, max_levels - length (leading (parts path))) (path-home type s path ne h)))

-- a path that names a file is in a directory of the tree
pub reached-entry : (s : List ℕ) (S : Sound s) (other : List ℕ) → Reached s other → Entry s (entry_of is_file s other)
unfolding entry_of
reached-entry s S other r =
    let N = path-named is_file s other r.1 in
    let h = N.high in
    slot-entry s S (home s other, max_levels - length (leading (parts other))) (path-home is_file s other r.1 r.0) (path_slot is_file s other) (omega arith)

pub reached-file : (s : List ℕ) (other : List ℕ) → Reached s other → (is_file (type_of s (entry_of is_file s other)) ≡ true) × (name_of s (entry_of is_file s other) ≡ last_part (parts other))
unfolding entry_of
reached-file s other r = let N = path-named is_file s other r.1 in (N.typed, N.named)

module _ (s s' : List ℕ) (S : Sound s) (d₀ : ℕ × ℕ) (i₀ : In d₀ (dirs s)) (k : ℕ) (k₁ : 1 ≤ k) (k₂ : k < 4 * size_at s d₀.0 - 1) where
  abbrev e₀ : ℕ
  e₀ = slot_at (directory s d₀.0) k

  -- the two chains of the file of another path
  module _ (O : OneSlot s (dirs s) s' e₀)
      (values : (a : ℕ) → Owner s a → a ≢ e₀ → a ≢ e₀ + 28 → ((d : ℕ × ℕ) → In d (dirs s) → a ≢ 512 * d.0) → (q : ℕ) → In q (blocks_at s a) → next s' q ≡ next s q)
      (stuff : (a : ℕ) → Owner s a → a ≢ e₀ → a ≢ e₀ + 28 → ((d : ℕ × ℕ) → In d (dirs s) → a ≢ 512 * d.0) → (q : ℕ) → In q (blocks_at s a) → block s' q ≡ block s q)
      (other : List ℕ) (r : Reached s other) (away₀ : entry_of is_file s other ≢ e₀)
    where
      abbrev a : ℕ
      a = entry_of is_file s other

      E : Entry s a
      E = reached-entry s S other r

      file : is_file (type_of s a) ≡ true
      file = (reached-file s other r).0

      lined : e₀ % 128 ≡ 0
      lined = (slot-entry s S d₀ i₀ k (omega arith)).aligned

      ne₁ : a ≢ e₀ + 28
      ne₁ q = let h = E.aligned in let g = lined in omega arith

      ne₂ : a + 28 ≢ e₀
      ne₂ q = let h = E.aligned in let g = lined in omega arith

      ne₃ : a + 28 ≢ e₀ + 28
      ne₃ q = away₀ (omega arith)

      pub same-own : SameFile s s' a
      same-own =
          other-file s s' S d₀ i₀ k k₁ k₂ O a E away₀ file (λ q i. values a (inl E) away₀ ne₁ (file-no-self s S a E file) q (rw (file-blocks s S a E file) i))
          (λ q i. stuff a (inl E) away₀ ne₁ (file-no-self s S a E file) q (rw (file-blocks s S a E file) i))

      pub same_second : SameAttributes s s' a
      same_second =
          other-attributes s s' S d₀ i₀ k k₁ k₂ O a E away₀ file
          (λ q i. values (a + 28) (second s S a E file) ne₂ ne₃ (second-no-self s S a E file) q (rw (second-blocks s S a E file) i))
          (λ q i. stuff (a + 28) (second s S a E file) ne₂ ne₃ (second-no-self s S a E file) q (rw (second-blocks s S a E file) i))

  -- the table's entries and the bytes of every other owner's blocks stay; the entry is no file of the other path's name, before or after
  module _ (O : OneSlot s (dirs s) s' e₀) (was : is_directory (type_of s e₀) ≡ false) (now : is_directory (type_of s' e₀) ≡ false)
      (values : (a : ℕ) → Owner s a → a ≢ e₀ → a ≢ e₀ + 28 → ((d : ℕ × ℕ) → In d (dirs s) → a ≢ 512 * d.0) → (q : ℕ) → In q (blocks_at s a) → next s' q ≡ next s q)
      (stuff : (a : ℕ) → Owner s a → a ≢ e₀ → a ≢ e₀ + 28 → ((d : ℕ × ℕ) → In d (dirs s) → a ≢ 512 * d.0) → (q : ℕ) → In q (blocks_at s a) → block s' q ≡ block s q)
      (other : List ℕ)
      (before : (home s other ≢ d₀.0) ⊎ ((is_file (type_of s e₀) && same (name_of s e₀) (last_part (parts other))) ≡ false))
      (after : (home s other ≢ d₀.0) ⊎ ((is_file (type_of s' e₀) && same (name_of s' e₀) (last_part (parts other))) ≡ false))
    where
      aside : (home s other ≢ d₀.0) ⊎ ((is_file (type_of s' e₀) && same (name_of s' e₀) (last_part (parts other))) ≡ (is_file (type_of s e₀) && same (name_of s e₀) (last_part (parts other))))
      aside = ⊎_elim (λ x. inl x) (λ p. ⊎_elim (λ x. inl x) (λ q. inr (q ∙ sym p)) after) before

      -- it is not the entry that changed
      away : Reached s other → entry_of is_file s other ≢ e₀
      unfolding entry_of
      away r q = ⊎_elim
          (λ ne. ne (ap (λ (w : ℕ × ℕ). w.0) (same-slot-place s (block_count s) S.tree S.least (home s other, max_levels - length (leading (parts other))) d₀ (path-home is_file s other r.1 r.0) i₀
          (path_slot is_file s other) k (let h = (path-named is_file s other r.1).high in omega arith) (omega arith) q).0))
          (λ p. let f = reached-file s other r in
          true-not-false {a = is_file (type_of s e₀) && same (name_of s e₀) (last_part (parts other))}
          (subst (λ (x : ℕ). (is_file (type_of s x) && same (name_of s x) (last_part (parts other))) ≡ true) q (and-join f.0 (rw f.1 (same_refl (last_part (parts other)))))) p)
          before

      pub untouched : Untouched s s' other
      untouched =
          record {
            slot = λ h. path-same s s' S d₀ i₀ k k₁ k₂ O was now other h is_file aside;
            entry = λ r. entry-same s s' S d₀ i₀ k k₁ k₂ O was now other r.0 is_file aside r.1;
            bytes = λ r. other-bytes s s' S d₀ i₀ k k₁ k₂ O (entry_of is_file s other) (reached-entry s S other r) (away r);
            blocks = λ r. (same-own O values stuff other r (away r)).blocks;
            contents = λ r. (same-own O values stuff other r (away r)).contents;
            second = λ r. same_second O values stuff other r (away r);
          }

-- read backwards
pub untouched-back : (s s' other : List ℕ) → Untouched s' s other → Untouched s s' other
untouched-back s s' other U =
    record {
      slot = λ h. sym (U.slot h);
      entry = λ r. sym (U.entry (back r));
      bytes = λ r. rw (U.entry (back r)) (sym (U.bytes (back r)));
      blocks = λ r. rw (U.entry (back r)) (sym (U.blocks (back r)));
      contents = λ r. rw (U.entry (back r)) (sym (U.contents (back r)));
      second = λ r. let A = U.second (back r) in rw (U.entry (back r)) (record { size = sym A.size; blocks = sym A.blocks; bytes = sym A.bytes });
    }
  where
    back : Reached s other → Reached s' other
    back r = (r.0, λ z. r.1 (U.slot r.0 ∙ z))

-- what an answer says of it
module _ (s s' other : List ℕ) (ok : check s ≡ 0) (ok' : check s' ≡ 0) (U : Untouched s s' other) where
  field : Reached s other → (i : ℕ) → i + 4 ≤ 128 → be32 s' (entry_of is_file s other + i) ≡ be32 s (entry_of is_file s other + i)
  field ne i h =
      let e = entry_of is_file s other in
      sym (be32-part s' e 128 i h) ∙ ap (λ (b : List ℕ). be32 b i) (U.bytes ne) ∙ be32-part s e 128 i h

  pub lookup-stays : lookup s' other ≡ lookup s other
  unfolding lookup lookup_refusal file_refusal
  lookup-stays = go (path_ok other) refl (shallow (leading (parts other))) refl (ℕ_discrete (path_slot is_file s other) 0)
    where
      go : (g : Bool) → path_ok other ≡ g → (w : Bool) → shallow (leading (parts other)) ≡ w → Dec (path_slot is_file s other ≡ 0) → lookup s' other ≡ lookup s other
      go false q w v z = rw (ok, ok', q)
      go true q false v z = rw (ok, ok', q, v)
      go true q true v (no ne) = rw (ok, ok', U.slot v, U.entry (v, ne), field (v, ne) 8 (omega arith), field (v, ne) 12 (omega arith))
      go true q true v (yes z) = rw (ok, ok', q, v, U.slot v, eq-eqb (path_slot is_file s other) 0 z)
