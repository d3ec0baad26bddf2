-- After a directory has come, the files of all paths stay: a path that passes through its name led nowhere, and leads to no file now.
use Prim.Native.Nat.{ℕ, zero, suc, ◌+◌, ◌-◌, ◌*◌, ◌/◌, ◌≤◌, ◌<◌}
use mathlib.Core.Path.{◌≡◌, refl, sym, ap, ◌∙◌, subst}
use mathlib.Core.Bool.{Bool, true, false, cond}
use mathlib.Core.List.{List, [], ◌∷◌}
use mathlib.Core.Logic.{◌⊎◌, inl, inr, ⊎_elim, ◌≢◌}
use native.Mathlib.Omega.{arith}
use native.Mathlib.Decide.{ℕ_discrete}
use borrow.Author.Tests.{eq-eqb, ne_eqb, leb-true}
use lib.ListN.{length}
use lib.Dec.{eqb}
use Rattle.layout.specs.Limits.{max_levels}
use Rattle.layout.specs.Lists.{same}
use Rattle.layout.specs.Bytes.{part, block}
use Rattle.layout.specs.Geometry.{block_count, root_block}
use Rattle.layout.specs.Table.{next}
use Rattle.layout.specs.Directory.{slot_at, type_of, first_block, is_file, is_directory, name_of, slot_of, directory, root_of, dirs}
use Rattle.layout.specs.Paths.{parts, leading, last_part, shallow, child_of, resolve, home, path_slot, entry_of}
use Rattle.layout.proofs.Laws.Tests.{true-not-false, is_false, within-split}
use Rattle.layout.proofs.Laws.Lists.{In}
use Rattle.layout.proofs.Laws.Names.{same-eq}
use Rattle.layout.proofs.Laws.Trees.{size_at, root_in, same-slot-place}
use Rattle.layout.proofs.Laws.Sound.{Sound, Entry, Owner}
use Rattle.layout.proofs.Laws.Slots.{slot-entry}
use Rattle.layout.proofs.Laws.Paths.{Named, slot-named, slot-unnamed, child-found, child-in-tree, home-in-tree, path-named, path-home, home_found}
use Rattle.layout.proofs.Laws.Changed.{OneSlot, blocks-stay, size-stays}
use Rattle.layout.proofs.Laws.Empties.{Empty}
use Rattle.layout.proofs.Laws.Others.{other-bytes, other-type, other-field, other-name, test-slot, reached-entry, reached-file, same-own, same_second}
use Rattle.layout.specs.Claims.{Reached, Untouched}
use Rattle.layout.proofs.Laws.Owners.{blocks_at}

entry_kept : (s s' path : List ℕ) (type : ℕ → Bool) → path_slot type s' path ≡ path_slot type s path → home s' path ≡ home s path → directory s' (home s path) ≡ directory s (home s path)
    → entry_of type s' path ≡ entry_of type s path
unfolding entry_of
entry_kept s s' path type p q r = rw (p, q, r)

module _ (s s' : List ℕ) (S : Sound s) (b₀ j : ℕ) (i₀ : In (b₀, suc j) (dirs s)) (k : ℕ) (k₁ : 1 ≤ k) (k₂ : k < 4 * size_at s b₀ - 1) where
  abbrev d₀ : ℕ × ℕ
  d₀ = (b₀, suc j)

  abbrev e : ℕ
  e = slot_at (directory s b₀) k

  abbrev c : ℕ
  c = first_block s' e

  all : (d : ℕ × ℕ) → In d (dirs s) → In d (dirs s)
  all d i = i

  module _ (O : OneSlot s (dirs s) s' e) (was : type_of s e ≡ 0) (now : is_directory (type_of s' e) ≡ true) (M : Empty s' (first_block s' e))
      (new : (x : ℕ) → 1 ≤ x → x < 4 * size_at s b₀ - 1 → x ≢ k → type_of s (slot_at (directory s b₀) x) ≢ 0 → name_of s' e ≢ name_of s (slot_at (directory s b₀) x))
    where
      no-dir : is_directory (type_of s e) ≡ false
      no-dir = rw was

      no-file : is_file (type_of s' e) ≡ false
      no-file = is_false _ (λ f. let a = within-split 0x20 0x5F (type_of s' e) now in let b = within-split 0x60 0x9F (type_of s' e) f in omega arith)

      -- one part: as before, or through the new name
      After : ℕ → List ℕ → Type 0
      After b p = (child_of s' b p ≡ child_of s b p) ⊎ ((child_of s b p ≡ 0) × ((child_of s' b p ≡ 0) ⊎ (child_of s' b p ≡ c)))

      -- the same slot gives the same child
      same-slot : (b left : ℕ) → In (b, left) (dirs s) → (p : List ℕ) → slot_of is_directory s' (directory s' b) p ≡ slot_of is_directory s (directory s b) p → child_of s' b p ≡ child_of s b p
      unfolding child_of
      same-slot b left i p q = rw (q, blocks-stay s s' S (dirs s) all d₀ i₀ k k₁ k₂ O (b, left) i) (go (ℕ_discrete (slot_of is_directory s (directory s b) p) 0))
        where
          go : Dec (slot_of is_directory s (directory s b) p ≡ 0)
              → cond (eqb (slot_of is_directory s (directory s b) p) 0) 0 (first_block s' (slot_at (directory s b) (slot_of is_directory s (directory s b) p)))
              ≡ cond (eqb (slot_of is_directory s (directory s b) p) 0) 0 (first_block s (slot_at (directory s b) (slot_of is_directory s (directory s b) p)))
          go (yes z) = rw (eq-eqb _ 0 z)
          go (no ne) =
              let N = slot-named is_directory s b p ne in
              let h = N.high in
              let a : ℕ = slot_at (directory s b) (slot_of is_directory s (directory s b) p) in
              let E = slot-entry s S (b, left) i (slot_of is_directory s (directory s b) p) (omega arith) in
              let away : a ≢ e = λ y. true-not-false {a = is_directory (type_of s e)} (subst (λ (w : ℕ). is_directory (type_of s w) ≡ true) y N.typed) no-dir in
              rw (other-field s s' S d₀ i₀ k k₁ k₂ O a E away 4 (omega arith))

      -- away from the new name all is as before
      quiet : (b left : ℕ) → In (b, left) (dirs s) → (p : List ℕ) → (same (name_of s' e) p ≡ false) ⊎ (b ≢ b₀) → child_of s' b p ≡ child_of s b p
      quiet b left i p f =
          same-slot b left i p (test-slot s s' S d₀ i₀ k k₁ k₂ O is_directory p (b, left) i (λ x h q. ⊎_elim (λ g. rw (now, no-dir) g) (λ ne. absurd (ne (at x h q))) f))
        where
          at : (x : ℕ) → x < 4 * size_at s b → slot_at (directory s b) x ≡ e → b ≡ b₀
          at x h q = ap (λ (w : ℕ × ℕ). w.0) (same-slot-place s (block_count s) S.tree S.least (b, left) d₀ i i₀ x k h (omega arith) q).0

      used : (t : ℕ) → is_directory t ≡ true → t ≢ 0
      used t h z = let w = within-split 0x20 0x5F t h in omega arith

      -- no directory had the new name
      none_before : (p : List ℕ) → name_of s' e ≡ p → child_of s b₀ p ≡ 0
      none_before p q = go (ℕ_discrete (child_of s b₀ p) 0)
        where
          go : Dec (child_of s b₀ p ≡ 0) → child_of s b₀ p ≡ 0
          go (yes z) = z
          go (no ne) =
              let N = (child-found s b₀ p ne).0 in
              let x : ℕ = slot_of is_directory s (directory s b₀) p in
              absurd (new x N.low N.high (λ y. used (type_of s (slot_at (directory s b₀) x)) N.typed (ap (λ (w : ℕ). type_of s (slot_at (directory s b₀) w)) y ∙ was))
              (used (type_of s (slot_at (directory s b₀) x)) N.typed) (q ∙ sym N.named))

      -- and now the new one has it
      then-new : (p : List ℕ) → name_of s' e ≡ p → (child_of s' b₀ p ≡ 0) ⊎ (child_of s' b₀ p ≡ c)
      then-new p q = go (ℕ_discrete (child_of s' b₀ p) 0)
        where
          go : Dec (child_of s' b₀ p ≡ 0) → (child_of s' b₀ p ≡ 0) ⊎ (child_of s' b₀ p ≡ c)
          go (yes z) = inl z
          go (no ne) =
              let r = child-found s' b₀ p ne in
              let N = r.0 in
              let x : ℕ = slot_of is_directory s' (directory s' b₀) p in
              let a : ℕ = slot_at (directory s b₀) x in
              let y : directory s' b₀ ≡ directory s b₀ = blocks-stay s s' S (dirs s) all d₀ i₀ k k₁ k₂ O d₀ i₀ in
              let m : size_at s' b₀ ≡ size_at s b₀ = size-stays s s' S (dirs s) all d₀ i₀ k k₁ k₂ O d₀ i₀ in
              let hi = N.high in
              let E : Entry s a = slot-entry s S d₀ i₀ x (omega arith) in
              let v : slot_at (directory s' b₀) x ≡ a = ap (λ (ds : List ℕ). slot_at ds x) y in
              inr (r.1 ∙ ap (first_block s') (v ∙ it a E (ℕ_discrete a e) (subst (λ (w : ℕ). is_directory (type_of s' w) ≡ true) v N.typed) (ap (name_of s') (sym v) ∙ N.named) x N.low (omega arith) refl))
            where
              it : (a : ℕ) → Entry s a → Dec (a ≡ e) → is_directory (type_of s' a) ≡ true → name_of s' a ≡ p → (x : ℕ) → 1 ≤ x → x < 4 * size_at s b₀ - 1 → a ≡ slot_at (directory s b₀) x → a ≡ e
              it a E (yes z) t n x l u w = z
              it a E (no ne) t n x l u w =
                  let ty = other-type s s' S d₀ i₀ k k₁ k₂ O a E ne in
                  let nm = other-name s s' S d₀ i₀ k k₁ k₂ O a E ne in
                  absurd (new x l u (λ z. ne (w ∙ ap (slot_at (directory s b₀)) z)) (λ z. used (type_of s' a) t (ty ∙ ap (type_of s) w ∙ z)) (q ∙ sym n ∙ nm ∙ ap (name_of s) w))

      after-child : (b left : ℕ) → In (b, left) (dirs s) → (p : List ℕ) → After b p
      unfolding After
      after-child b left i p = go (ℕ_discrete b b₀) (same (name_of s' e) p) refl
        where
          go : Dec (b ≡ b₀) → (t : Bool) → same (name_of s' e) p ≡ t → (child_of s' b p ≡ child_of s b p) ⊎ ((child_of s b p ≡ 0) × ((child_of s' b p ≡ 0) ⊎ (child_of s' b p ≡ c)))
          go (no ne) t q = inl (quiet b left i p (inr ne))
          go (yes z) false q = inl (quiet b left i p (inl q))
          go (yes z) true q =
              let y = same-eq (name_of s' e) p q in
              inr (ap (λ (w : ℕ). child_of s w p) z ∙ none_before p y, subst (λ (w : ℕ). (child_of s' w p ≡ 0) ⊎ (child_of s' w p ≡ c)) (sym z) (then-new p y))

      -- the new directory leads nowhere
      dead_end : (p : List ℕ) (ps : List (List ℕ)) → resolve s' c (p ∷ ps) ≡ 0
      unfolding resolve
      dead_end p ps = go (ℕ_discrete (child_of s' c p) 0)
        where
          go : Dec (child_of s' c p ≡ 0) → cond (eqb (child_of s' c p) 0) 0 (resolve s' (child_of s' c p) ps) ≡ 0
          go (yes z) = rw (eq-eqb _ 0 z)
          go (no ne) = let N = (child-found s' c p ne).0 in absurd (used _ N.typed (M.free (slot_of is_directory s' (directory s' c) p) N.low N.high))

      -- all parts: as before; or to nothing before, and to nothing or the new directory now
      Leads : ℕ → List (List ℕ) → Type 0
      Leads b ps = (resolve s' b ps ≡ resolve s b ps) ⊎ ((resolve s b ps ≡ 0) × ((resolve s' b ps ≡ 0) ⊎ (resolve s' b ps ≡ c)))

      after-resolve : (ps : List (List ℕ)) (b left : ℕ) → In (b, left) (dirs s) → length ps ≤ left → Leads b ps
      unfolding Leads resolve After
      after-resolve [] b left i h = inl refl
      after-resolve (p ∷ ps) b zero i h = absurd (omega arith)
      after-resolve (p ∷ ps) b (suc left) i h =
          ⊎_elim (λ q. same-child q (ℕ_discrete (child_of s b p) 0) (λ m. after-resolve ps (child_of s b p) left m (omega arith))) (λ r. through r.0 r.1) (after-child b (suc left) i p)
        where
          Now : Type 0
          Now = (cond (eqb (child_of s' b p) 0) 0 (resolve s' (child_of s' b p) ps) ≡ cond (eqb (child_of s b p) 0) 0 (resolve s (child_of s b p) ps))
              ⊎ ((cond (eqb (child_of s b p) 0) 0 (resolve s (child_of s b p) ps) ≡ 0)
              × ((cond (eqb (child_of s' b p) 0) 0 (resolve s' (child_of s' b p) ps) ≡ 0) ⊎ (cond (eqb (child_of s' b p) 0) 0 (resolve s' (child_of s' b p) ps) ≡ c)))

          same-child : child_of s' b p ≡ child_of s b p → Dec (child_of s b p ≡ 0) → (In (child_of s b p, left) (dirs s) → Leads (child_of s b p) ps) → Now
          same-child q (yes z) ih = inl (rw (q, eq-eqb _ 0 z))
          same-child q (no ne) ih = rw (q, ne_eqb (child_of s b p) 0 ne) (ih (child-in-tree s b p left i ne))

          last : (rs : List (List ℕ)) → (resolve s' c rs ≡ 0) ⊎ (resolve s' c rs ≡ c)
          last [] = inr refl
          last (r ∷ rs) = inl (dead_end r rs)

          through : child_of s b p ≡ 0 → (child_of s' b p ≡ 0) ⊎ (child_of s' b p ≡ c) → Now
          through z (inl y) = inl (rw (eq-eqb _ 0 z, eq-eqb _ 0 y))
          through z (inr y) = inr ((rw (eq-eqb _ 0 z)), at (ℕ_discrete (child_of s' b p) 0))
            where
              at : Dec (child_of s' b p ≡ 0) → (cond (eqb (child_of s' b p) 0) 0 (resolve s' (child_of s' b p) ps) ≡ 0) ⊎ (cond (eqb (child_of s' b p) 0) 0 (resolve s' (child_of s' b p) ps) ≡ c)
              at (yes x) = inl (rw (eq-eqb _ 0 x))
              at (no x) = rw (ne_eqb (child_of s' b p) 0 x, y) (last ps)

      -- where a path's last part is looked up
      pub after-home : (path : List ℕ) → shallow (leading (parts path)) ≡ true → (home s' path ≡ home s path) ⊎ ((home s path ≡ 0) × ((home s' path ≡ 0) ⊎ (home s' path ≡ c)))
      unfolding home shallow Leads
      after-home path h =
          let r : root_of s' ≡ root_of s = ap (λ (x : ℕ). root_block (x / 512)) O.len in
          rw r (after-resolve (leading (parts path)) (root_of s) max_levels (root_in s (block_count s)) (leb-true _ _ h))

      -- the new directory holds no file
      no-files : (name : List ℕ) → slot_of is_file s' (directory s' c) name ≡ 0
      no-files name = go (ℕ_discrete (slot_of is_file s' (directory s' c) name) 0)
        where
          go : Dec (slot_of is_file s' (directory s' c) name ≡ 0) → slot_of is_file s' (directory s' c) name ≡ 0
          go (yes z) = z
          go (no ne) =
              let N = slot-named is_file s' c name ne in
              let z = M.free (slot_of is_file s' (directory s' c) name) N.low N.high in
              let w = within-split 0x60 0x9F (type_of s' (slot_at (directory s' c) (slot_of is_file s' (directory s' c) name))) N.typed in
              absurd (omega arith)

      files-same : (h l : ℕ) → In (h, l) (dirs s) → (name : List ℕ) → slot_of is_file s' (directory s' h) name ≡ slot_of is_file s (directory s h) name
      files-same h l i name = test-slot s s' S d₀ i₀ k k₁ k₂ O is_file name (h, l) i (λ x g q. rw (no-file, was))

      after-slot : (path : List ℕ) → shallow (leading (parts path)) ≡ true → path_slot is_file s' path ≡ path_slot is_file s path
      unfolding path_slot
      after-slot path h = ⊎_elim (λ q. rw q (alike (ℕ_discrete (home s path) 0))) (λ r. rw (eq-eqb (home s path) 0 r.0) (gone r.1)) (after-home path h)
        where
          alike : Dec (home s path ≡ 0)
              → cond (eqb (home s path) 0) 0 (slot_of is_file s' (directory s' (home s path)) (last_part (parts path))) ≡ cond (eqb (home s path) 0) 0 (slot_of is_file s (directory s (home s path)) (last_part (parts path)))
          alike (yes z) = rw (eq-eqb _ 0 z)
          alike (no ne) =
              ap (λ (x : ℕ). cond (eqb (home s path) 0) 0 x) (files-same (home s path) (max_levels - length (leading (parts path))) (home-in-tree s path h ne) (last_part (parts path)))

          gone : (home s' path ≡ 0) ⊎ (home s' path ≡ c) → cond (eqb (home s' path) 0) 0 (slot_of is_file s' (directory s' (home s' path)) (last_part (parts path))) ≡ 0
          gone (inl z) = rw (eq-eqb _ 0 z)
          gone (inr z) = rw (z, no-files (last_part (parts path))) (zero-cond (eqb c 0))
            where
              zero-cond : (t : Bool) → ◌≡◌ {A = ℕ} (cond t 0 0) 0
              zero-cond true = refl
              zero-cond false = refl

      -- THE FILES OF ALL PATHS STAY
      pub newcomer-untouched :
          ((a : ℕ) → Owner s a → a ≢ e → a ≢ e + 28 → ((d : ℕ × ℕ) → In d (dirs s) → a ≢ 512 * d.0) → (q : ℕ) → In q (blocks_at s a) → next s' q ≡ next s q)
          → ((a : ℕ) → Owner s a → a ≢ e → a ≢ e + 28 → ((d : ℕ × ℕ) → In d (dirs s) → a ≢ 512 * d.0) → (q : ℕ) → In q (blocks_at s a) → block s' q ≡ block s q)
          → (other : List ℕ) → Untouched s s' other
      newcomer-untouched values stuff other =
          record {
            slot = after-slot other;
            entry = entry-stays;
            bytes = λ r. other-bytes s s' S d₀ i₀ k k₁ k₂ O (entry_of is_file s other) (reached-entry s S other r) (away r);
            blocks = λ r. (same-own s s' S d₀ i₀ k k₁ k₂ O values stuff other r (away r)).blocks;
            contents = λ r. (same-own s s' S d₀ i₀ k k₁ k₂ O values stuff other r (away r)).contents;
            second = λ r. same_second s s' S d₀ i₀ k k₁ k₂ O values stuff other r (away r);
          }
        where
          away : Reached s other → entry_of is_file s other ≢ e
          away r q = let z : type_of s (entry_of is_file s other) ≡ 0 = ap (type_of s) q ∙ was in let w = within-split 0x60 0x9F (type_of s (entry_of is_file s other)) (reached-file s other r).0 in omega arith

          entry-stays : Reached s other → entry_of is_file s' other ≡ entry_of is_file s other
          entry-stays r = entry_kept s s' other is_file (after-slot other r.0)
              (⊎_elim (λ q. q) (λ x. absurd (home_found is_file s other r.1 x.0)) (after-home other r.0))
              (blocks-stay s s' S (dirs s) all d₀ i₀ k k₁ k₂ O (home s other, max_levels - length (leading (parts other))) (path-home is_file s other r.1 r.0))

      -- THE DIRECTORIES OF OTHER PATHS STAY
      no-folders : (name : List ℕ) → slot_of is_directory s' (directory s' c) name ≡ 0
      no-folders name = go (ℕ_discrete (slot_of is_directory s' (directory s' c) name) 0)
        where
          go : Dec (slot_of is_directory s' (directory s' c) name ≡ 0) → slot_of is_directory s' (directory s' c) name ≡ 0
          go (yes z) = z
          go (no ne) = let N = slot-named is_directory s' c name ne in absurd (used _ N.typed (M.free (slot_of is_directory s' (directory s' c) name) N.low N.high))

      at_home : (path : List ℕ) (l : ℕ) → In (home s path, l) (dirs s) → (x : ℕ) → x < 4 * size_at s (home s path) → slot_at (directory s (home s path)) x ≡ e → home s path ≡ b₀
      at_home path l i x h q = ap (λ (w : ℕ × ℕ). w.0) (same-slot-place s (block_count s) S.tree S.least (home s path, l) d₀ i i₀ x k h (omega arith) q).0

      module _ (path : List ℕ) (h : shallow (leading (parts path)) ≡ true) where
        module _ (apart : (home s path ≢ b₀) ⊎ (name_of s' e ≢ last_part (parts path))) where
          not-it : (home s path ≢ b₀) ⊎ (same (name_of s' e) (last_part (parts path)) ≡ false)
          not-it = ⊎_elim (λ x. inl x) (λ x. inr (is_false _ (λ y. x (same-eq (name_of s' e) (last_part (parts path)) y)))) apart

          folders-same : home s path ≢ 0 → slot_of is_directory s' (directory s' (home s path)) (last_part (parts path)) ≡ slot_of is_directory s (directory s (home s path)) (last_part (parts path))
          folders-same ne =
              let l : ℕ = max_levels - length (leading (parts path)) in
              let i = home-in-tree s path h ne in
              test-slot s s' S d₀ i₀ k k₁ k₂ O is_directory (last_part (parts path)) (home s path, l) i
              (λ x g q. ⊎_elim (λ away. absurd (away (at_home path l i x g q))) (λ f. rw (now, no-dir) f) not-it)

          pub folder-slot : path_slot is_directory s' path ≡ path_slot is_directory s path
          unfolding path_slot
          folder-slot = ⊎_elim (λ q. rw q (alike (ℕ_discrete (home s path) 0))) (λ r. rw (eq-eqb (home s path) 0 r.0) (gone r.1)) (after-home path h)
            where
              alike : Dec (home s path ≡ 0)
                  → cond (eqb (home s path) 0) 0 (slot_of is_directory s' (directory s' (home s path)) (last_part (parts path))) ≡ cond (eqb (home s path) 0) 0 (slot_of is_directory s (directory s (home s path)) (last_part (parts path)))
              alike (yes z) = rw (eq-eqb _ 0 z)
              alike (no ne) = ap (λ (x : ℕ). cond (eqb (home s path) 0) 0 x) (folders-same ne)

              gone : (home s' path ≡ 0) ⊎ (home s' path ≡ c) → cond (eqb (home s' path) 0) 0 (slot_of is_directory s' (directory s' (home s' path)) (last_part (parts path))) ≡ 0
              gone (inl z) = rw (eq-eqb _ 0 z)
              gone (inr z) = rw (z, no-folders (last_part (parts path))) (zero-cond (eqb c 0))
                where
                  zero-cond : (t : Bool) → ◌≡◌ {A = ℕ} (cond t 0 0) 0
                  zero-cond true = refl
                  zero-cond false = refl

          module _ (some : path_slot is_directory s path ≢ 0) where
            there : home s' path ≡ home s path
            there = ⊎_elim (λ q. q) (λ x. absurd (home_found is_directory s path some x.0)) (after-home path h)

            pub folder-entry : entry_of is_directory s' path ≡ entry_of is_directory s path
            folder-entry = entry_kept s s' path is_directory folder-slot there
                (blocks-stay s s' S (dirs s) all d₀ i₀ k k₁ k₂ O (home s path, max_levels - length (leading (parts path))) (path-home is_directory s path some h))

            pub folder-in : Entry s (entry_of is_directory s path)
            unfolding entry_of
            folder-in =
                let u = (path-named is_directory s path some).high in
                slot-entry s S (home s path, max_levels - length (leading (parts path))) (path-home is_directory s path some h) (path_slot is_directory s path) (omega arith)

            folder-away : entry_of is_directory s path ≢ e
            unfolding entry_of
            folder-away q = used _ (path-named is_directory s path some).typed (ap (type_of s) q ∙ was)

            pub folder-bytes : part s' (entry_of is_directory s path) 128 ≡ part s (entry_of is_directory s path) 128
            folder-bytes = other-bytes s s' S d₀ i₀ k k₁ k₂ O (entry_of is_directory s path) folder-in folder-away

        -- THE NEW ONE: it was not there, and is
        module _ (here : home s path ≡ b₀) (real : home s path ≢ 0) (called : name_of s' e ≡ last_part (parts path)) where
          pub folder-none : path_slot is_directory s path ≡ 0
          folder-none = go (ℕ_discrete (path_slot is_directory s path) 0)
            where
              go : Dec (path_slot is_directory s path ≡ 0) → path_slot is_directory s path ≡ 0
              go (yes z) = z
              go (no ne) =
                  let N = path-named is_directory s path ne in
                  let x : ℕ = path_slot is_directory s path in
                  let v : slot_at (directory s (home s path)) (path_slot is_directory s path) ≡ slot_at (directory s b₀) (path_slot is_directory s path) = ap (λ (w : ℕ). slot_at (directory s w) (path_slot is_directory s path)) here in
                  let ty : is_directory (type_of s (slot_at (directory s b₀) (path_slot is_directory s path))) ≡ true = subst (λ (w : ℕ). is_directory (type_of s w) ≡ true) v N.typed in
                  let hi : size_at s (home s path) ≡ size_at s b₀ = ap (size_at s) here in
                  let top = N.high in
                  absurd (new (path_slot is_directory s path) N.low (omega arith) (λ y. used _ ty (ap (λ (w : ℕ). type_of s (slot_at (directory s b₀) w)) y ∙ was)) (used _ ty)
                  (called ∙ sym N.named ∙ ap (name_of s) v))

          home-now : home s' path ≡ b₀
          home-now = ⊎_elim (λ q. q ∙ here) (λ x. absurd (real x.0)) (after-home path h)

          dir-now : directory s' b₀ ≡ directory s b₀
          dir-now = blocks-stay s s' S (dirs s) all d₀ i₀ k k₁ k₂ O d₀ i₀

          size-now : size_at s' b₀ ≡ size_at s b₀
          size-now = size-stays s s' S (dirs s) all d₀ i₀ k k₁ k₂ O d₀ i₀

          mine : Named is_directory s' b₀ (last_part (parts path)) k
          mine = let q = size-now in record { low = k₁; high = omega arith; typed = rw dir-now now; named = rw dir-now called }

          slot-now : slot_of is_directory s' (directory s' b₀) (last_part (parts path)) ≡ k
          slot-now = go (ℕ_discrete (slot_of is_directory s' (directory s' b₀) (last_part (parts path))) k)
            where
              go : Dec (slot_of is_directory s' (directory s' b₀) (last_part (parts path)) ≡ k) → slot_of is_directory s' (directory s' b₀) (last_part (parts path)) ≡ k
              go (yes q) = q
              go (no away) =
                  let x : ℕ = slot_of is_directory s' (directory s' b₀) (last_part (parts path)) in
                  let N = slot-named is_directory s' b₀ (last_part (parts path)) (λ z. slot-unnamed is_directory s' b₀ (last_part (parts path)) z k mine) in
                  let top = N.high in
                  let q = size-now in
                  let E = slot-entry s S d₀ i₀ x (omega arith) in
                  let far : slot_at (directory s b₀) x ≢ e = λ z. away (same-slot-place s (block_count s) S.tree S.least d₀ d₀ i₀ i₀ x k (omega arith) (omega arith) z).1 in
                  let ty = other-type s s' S d₀ i₀ k k₁ k₂ O (slot_at (directory s b₀) x) E far in
                  let nm = other-name s s' S d₀ i₀ k k₁ k₂ O (slot_at (directory s b₀) x) E far in
                  let t : is_directory (type_of s' (slot_at (directory s b₀) x)) ≡ true = subst (λ (ds : List ℕ). is_directory (type_of s' (slot_at ds x)) ≡ true) dir-now N.typed in
                  let n : name_of s' (slot_at (directory s b₀) x) ≡ last_part (parts path) = subst (λ (ds : List ℕ). name_of s' (slot_at ds x) ≡ last_part (parts path)) dir-now N.named in
                  absurd (new x N.low (omega arith) away (λ z. used _ t (ty ∙ z)) (called ∙ sym n ∙ nm))

          pub folder-own-slot : path_slot is_directory s' path ≡ k
          unfolding path_slot
          folder-own-slot = rw (home-now, ne_eqb b₀ 0 (λ z. real (here ∙ z))) slot-now

          pub folder-own : entry_of is_directory s' path ≡ e
          unfolding entry_of
          folder-own = rw (folder-own-slot, home-now, dir-now)
