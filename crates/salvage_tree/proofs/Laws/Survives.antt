-- WHAT SURVIVES: from the codes of the slots, whole files and folders that stand.
use Prim.Native.Nat.{ℕ, ◌+◌, ◌-◌, ◌≤◌, ◌<◌}
use mathlib.Core.Bool.{Bool, true, false, ◌&&◌}
use mathlib.Core.List.{List, [], ◌∷◌, ◌++◌}
use mathlib.Core.Logic.{◌⊎◌, inl, inr, ⊎_elim, ◌≢◌}
use mathlib.Core.Path.{◌≡◌, refl, sym, ◌∙◌, subst}
use native.Mathlib.Omega.{arith}
use lib.Dec.{eqb}
use lib.ListN.{length, get_or}
use Rattle.layout.specs.Lists.{every, has, distinct}
use Rattle.layout.specs.Geometry.{in_volume}
use Rattle.layout.specs.Table.{chain}
use Rattle.layout.specs.Directory.{slot_at, type_of, first_block, attribute_size_of, is_file, is_directory, name_of, file_blocks, attribute_blocks, attributes}
use Rattle.layout.specs.Check.{slot_ok}
use Rattle.layout.proofs.Laws.Tests.{and-join, lt-or-ge, true-not-false, true-or-false}
use Rattle.layout.proofs.Laws.Lists.{In, in_left, in_right, in-append, every_in, in-every, in-has-eqb, has-eqb-in}
use Rattle.layout.proofs.Laws.Frames.{Same, same-be32, same_byte}
use Rattle.layout.proofs.Laws.Owners.{file-no-dir, file-used-type}
use Rattle.layout.proofs.Laws.Inside.{directory-used-type}
use Rattle.layout.proofs.Laws.Sound.{slot_ok-split}
use Rattle.salvage.specs.Salvage.{claimable}
use Rattle.salvage.proofs.Laws.Walked.{claimable-join}
use Rattle.salvage_tree.specs.SalvageTree.{State}
use Rattle.salvage_tree.specs.Claims.{code_at, in_use, name_new, Cause, FileKept, FolderKept, Hung, WholeFile, SameFile, StandingFolder}
use Rattle.salvage_tree.proofs.Laws.Counting.{count-append, in_count, once-count, count-once}
use Rattle.salvage_tree.proofs.Laws.Fine.{EntryKept, Over, cause-more, claimable-more}
use Rattle.salvage_tree.proofs.Laws.Rest.{SlotTold}
use Rattle.salvage_tree.proofs.Laws.Kept.{file-kept}

every-left : (p : ℕ → Bool) (xs ys : List ℕ) → every p (xs ++ ys) ≡ true → every p xs ≡ true
every-left p xs ys h = in-every p xs (λ x i. every_in p (xs ++ ys) x h (in_left x xs ys i))

every-right : (p : ℕ → Bool) (xs ys : List ℕ) → every p (xs ++ ys) ≡ true → every p ys ≡ true
every-right p xs ys h = in-every p ys (λ x i. every_in p (xs ++ ys) x h (in_right x xs ys i))

once-left : (xs ys : List ℕ) → distinct eqb (xs ++ ys) ≡ true → distinct eqb xs ≡ true
once-left xs ys h = count-once xs (λ x. let c = once-count (xs ++ ys) h x in omega (arith, count-append x xs ys))

once-right : (xs ys : List ℕ) → distinct eqb (xs ++ ys) ≡ true → distinct eqb ys ≡ true
once-right xs ys h = count-once ys (λ x. let c = once-count (xs ++ ys) h x in omega (arith, count-append x xs ys))

once-both : (xs ys : List ℕ) → distinct eqb (xs ++ ys) ≡ true → (x : ℕ) → In x xs → In x ys → ⊥
once-both xs ys h x i j = let c = once-count (xs ++ ys) h x in let a = in_count x xs i in let b = in_count x ys j in omega (arith, count-append x xs ys)

module _ (s : List ℕ) (n : ℕ) (q : State) (left : ℕ) (ds : List ℕ) (k : ℕ) (T : SlotTold s n q left ds k) where
  abbrev w : List ℕ
  w = q.image

  abbrev e : ℕ
  e = slot_at ds k

  -- what is zeroed, or hung over, was free, or has its cause
  pub zeroed : type_of w e ≡ 0 → Over s w n left (in_use w) ds k
  zeroed z =
      ⊎_elim (λ a. inl a.1) (λ a. inr (⊎_elim (λ y. inl (T.form y)) (λ y. inr (y.1, cause-more s n left q.claimed (in_use w) e T.owned_by y.2)) a.1)) (T.told.gone z)

  pub hung-over : code_at q.codes e ≡ 6 → Over s w n left (in_use w) ds k
  hung-over c = ⊎_elim (λ z. inl z) (λ r. inr (⊎_elim (λ z. inl z) (λ z. inr (z.0, cause-more s n left q.claimed (in_use w) e T.owned_by z.1)) r)) (T.over c)

  pub dropped-why : type_of s e ≢ 0 → type_of w e ≡ 0
      → ((code_at q.codes e ≡ 1) × ((slot_ok s e && name_new w ds k (name_of s e)) ≡ false)) ⊎ ((code_at q.codes e ≡ 2) × (slot_ok s e ≡ true) × Cause s n left (in_use w) e)
  dropped-why u z =
      ⊎_elim (λ a. absurd (u a.1)) (λ a. ⊎_elim (λ y. inl (y, T.form y)) (λ y. inr (y.0, y.1, cause-more s n left q.claimed (in_use w) e T.owned_by y.2)) a.1) (T.told.gone z)

  module _ (kept : type_of w e ≢ 0 → EntryKept s w e ⊎ Hung s w e) (len : length w ≡ length s) where
    type-kept : EntryKept s w e → type_of w e ≡ type_of s e
    type-kept K = same_byte s w e 12 e K.front (omega arith) (omega arith)

    file-entry : is_file (type_of w e) ≡ true → EntryKept s w e
    file-entry f = ⊎_elim (λ K. K) (λ G. absurd (true-not-false {a = is_file (type_of w e)} f (rw G.type))) (kept (file-used-type (type_of w e) f))

    pub kept-file : is_file (type_of w e) ≡ true → FileKept s w e
    kept-file f = file-kept s w len e f (file-entry f)

    pub kept-folder : EntryKept s w e → is_directory (type_of w e) ≡ true → FolderKept s w e
    kept-folder K d = record { front = K.front; back = λ i h. go i h }
      where
        at : (o m : ℕ) → Same s w (e + o) m → (i : ℕ) → o ≤ i + 16 → i + 16 < o + m → get_or w (e + 16 + i) 0 ≡ get_or s (e + 16 + i) 0
        at o m f i h g = let z : e + 16 + i ≡ e + o + (i + 16 - o) = omega arith in rw z (f (i + 16 - o) (omega arith))

        go : (i : ℕ) → i < 112 → get_or w (e + 16 + i) 0 ≡ get_or s (e + 16 + i) 0
        go i h = ⊎_elim (λ a. K.middle i a) (λ a. ⊎_elim (λ b. at 32 8 (K.folder d) i (omega arith) (omega arith)) (λ b. at 40 88 K.back i (omega arith) (omega arith)) (lt-or-ge i 24)) (lt-or-ge i 16)

    -- A WHOLE FILE
    module _ (W : WholeFile s w n ds k) where
      abbrev bs : List ℕ
      bs = file_blocks s e

      abbrev xs : List ℕ
      xs = attribute_blocks s e

      not-dropped : Over s w n left (in_use w) ds k → (is_file (type_of w e) ≡ true → ⊥) → ⊥
      not-dropped (inl z) no-file = file-used-type (type_of s e) W.file z
      not-dropped (inr (inl z)) no-file = true-not-false (and-join W.form W.name) z
      not-dropped (inr (inr (ok, inl c))) no-file =
          true-not-false (claimable-join n (in_use w) bs
          (record {
            inside = every-left (in_volume n) bs xs W.inside;
            once = once-left bs xs W.once;
            fresh = λ x i j. no-file (W.alone x (in-has-eqb x (bs ++ xs) (in_left x bs xs j)) (in-has-eqb x (in_use w) i)).0;
          })) c.1
      not-dropped (inr (inr (ok, inr c))) no-file = true-not-false c.0 (file-no-dir (type_of s e) W.file)

      no_second : attribute_size_of w e ≡ 0 → attribute_blocks w e ≡ []
      unfolding attribute_blocks chain
      no_second z = rw z

      not-cleared : is_file (type_of w e) ≡ true → attribute_size_of w e ≡ 0 → claimable n (in_use w) xs ≡ false → ⊥
      not-cleared f z c =
          true-not-false (claimable-join n (in_use w) xs
          (record {
            inside = every-right (in_volume n) bs xs W.inside;
            once = once-right bs xs W.once;
            fresh = λ x i j.
                let a = W.alone x (in-has-eqb x (bs ++ xs) (in_right x bs xs j)) (in-has-eqb x (in_use w) i) in
                ⊎_elim (λ m. once-both bs xs W.once x (subst (In x) ((file-entry f).blocks f) m) j) (λ m. subst (In x) (no_second z) m)
                (in-append x (file_blocks w e) (attribute_blocks w e) (has-eqb-in x (file_blocks w e ++ attribute_blocks w e) a.1));
          })) c

      none_both : attribute_size_of w e ≡ 0 → attribute_size_of s e ≡ 0 → attributes w e ≡ attributes s e
      unfolding attributes attribute_blocks chain
      none_both a b = rw (a, b)

      same-file : is_file (type_of w e) ≡ true → Same s w e 128 → SameFile s w e
      same-file f S =
          let K = kept-file f in
          record {
            entry = S;
            contents = K.contents;
            seconds = ⊎_elim (λ z. none_both z (sym (same-be32 s w e 128 (e + 36) S (omega arith) (omega arith)) ∙ z)) (λ a. a.1) K.second;
          }

      pub survives : SameFile s w e × ((code_at q.codes e ≡ 0) ⊎ (code_at q.codes e ≡ 3))
      survives =
          ⊎_elim (λ z. absurd (not-dropped (zeroed z) (λ f. file-used-type (type_of w e) f z)))
          (λ r. ⊎_elim
          (λ y. ⊎_elim (λ a. (same-file y.0 a.0, a.1)) (λ a. absurd (not-cleared y.0 a.1 (claimable-more n q.claimed (in_use w) xs T.owned_by a.2))) (T.told.file y.0))
          (λ y. absurd (⊎_elim (λ a. true-not-false (rw (← type-kept a.0) y.0) (file-no-dir (type_of s e) W.file)) (λ a. not-dropped (hung-over a.1) (λ f. true-not-false y.0 (file-no-dir (type_of w e) f)))
          (T.told.folder y.0))) r)
          (slot_ok-split w e T.ok)

    -- A FOLDER THAT STANDS
    module _ (F : StandingFolder s w n left ds k) where
      abbrev b : ℕ
      b = first_block s e

      folder-cause : Over s w n left (in_use w) ds k → has eqb b (in_use w) ≡ true
      folder-cause (inl z) = absurd (directory-used-type (type_of s e) F.folder z)
      folder-cause (inr (inl z)) = absurd (true-not-false (and-join F.form F.name) z)
      folder-cause (inr (inr (ok, inl c))) = absurd (true-not-false F.folder (file-no-dir (type_of s e) c.0))
      folder-cause (inr (inr (ok, inr (d, inl c)))) = absurd (F.level c)
      folder-cause (inr (inr (ok, inr (d, inr (inr c))))) = absurd (true-not-false F.witness c)
      folder-cause (inr (inr (ok, inr (d, inr (inl c))))) =
          ⊎_elim (λ t. t)
          (λ f. absurd (true-not-false (claimable-join n (in_use w) (b ∷ [])
          (record {
            inside = and-join F.inside refl;
            once = refl;
            fresh = λ x i j. ⊎_elim (λ z. true-not-false (in-has-eqb b (in_use w) (subst (λ (y : ℕ). In y (in_use w)) z i)) f) (λ z. z) j;
          })) c))
          (true-or-false (has eqb b (in_use w)))

      pub stands : (FolderKept s w e × ((code_at q.codes e ≡ 0) ⊎ (code_at q.codes e ≡ 3))) ⊎ (Hung s w e × (code_at q.codes e ≡ 6) × (first_block w e ≡ b))
      stands =
          ⊎_elim (λ z. absurd (directory-used-type (type_of w e) (F.alone (folder-cause (zeroed z))).0 z))
          (λ r. ⊎_elim
          (λ y. absurd (true-not-false F.folder (file-no-dir (type_of s e) (rw (← type-kept (file-entry y.0)) y.0))))
          (λ y. ⊎_elim (λ a. inl (kept-folder a.0 y.0, a.1)) (λ a. inr (a.0, a.1, (F.alone (folder-cause (hung-over a.1))).1)) (T.told.folder y.0)) r)
          (slot_ok-split w e T.ok)
