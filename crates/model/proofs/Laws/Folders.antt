-- A FOLDER OF THE IMAGE AND ITS NAMES: the names in its slots are those of the model, 13 counts them, and 18 asks whether there is one.
use Prim.Native.Nat.{ℕ, zero, suc, ◌+◌, ◌-◌, ◌*◌, ◌≤◌, ◌<◌}
use mathlib.Core.Path.{◌≡◌, refl, sym, ap, ◌∙◌, subst}
use mathlib.Core.Bool.{Bool, true, false, not, cond, false≢true}
use mathlib.Core.List.{List, [], ◌∷◌, ◌++◌, map, append-nil}
use mathlib.Core.Logic.{◌⊎◌, inl, inr, ⊎_elim, ◌≢◌}
use native.Mathlib.Omega.{arith}
use native.Mathlib.Decide.{ℕ_discrete}
use borrow.Author.Tests.{leb-true, le-leb, lt-ltb, le-ltb, ne_eqb, eq-eqb, eqb-true, eqb-false, not-true}
use lib.ListN.{length, get_or, length-append}
use lib.Dec.{eqb, leb, ltb}
use Rattle.layout.specs.Limits.{max_levels}
use Rattle.layout.specs.Lists.{every, has, distinct, interval, select, same}
use Rattle.layout.specs.Geometry.{block_count}
use Rattle.layout.specs.Directory.{slot_at, slots, type_of, first_block, is_free, is_file, is_directory, is_used, is_empty, slash, good_name, name_of, name_ok, directory, root_of, children, dirs, free_slot}
use Rattle.layout.specs.Check.{check, file_ok, directory_entry_ok}
use Rattle.layout.specs.Paths.{cut, parts, path_ok, leading, last_part, shallow, child_of, resolve, home, path_slot, entry_of, directory_refusal}
use Rattle.layout.proofs.Laws.Tests.{and_split, and-join, require-zero, true-not-false, is_false}
use Rattle.layout.proofs.Laws.Lists.{In, every_in, in-every, has_in, in-has, select-split}
use Rattle.layout.proofs.Laws.Joins.{in-interval, in-select, select_has, of_map, to_map}
use Rattle.layout.proofs.Laws.Names.{same-eq, same_refl, good_name-split}
use Rattle.layout.proofs.Laws.Paths.{Named, path-slot, path-named}
use Rattle.layout.proofs.Laws.Slots.{in-slots, slots-in, child-dir, children-in, names-differ}
use Rattle.layout.proofs.Laws.Trees.{size_at, root_in, length-directory, child_ok-split}
use Rattle.layout.proofs.Laws.Sound.{Sound, sound, slot_ok-split}
use Rattle.volume.specs.Views as views
use Rattle.volume.specs.Views.{folder_of}
use Rattle.volume.proofs.Laws.Places.{At, directory-at-path}
use Rattle.store.proofs.Laws.Serials.{cut-append}
use Rattle.model.specs.Model.{Node, nothing, file, folder, Model, blocks, shows_nothing}
use Rattle.model.specs.Listing.{child, Lists, folder_blocks}
use Rattle.model.specs.Refines.{as_folder, Shows, names_in, used_slots}
use Rattle.model.proofs.Laws.Nodes.{is_shown_folder}
use Rattle.model.proofs.Laws.Steps.{folder-shown}
use Rattle.model.proofs.Laws.Parents.{cut_word, child-some, found, some-there, taken-shown}

-- A TEST AND ITS OPPOSITE count a list
none-count : (p : ℕ → Bool) (l : List ℕ) → every p l ≡ eqb (length (select (λ k. not (p k)) l)) 0
none-count p [] = refl
none-count p (x ∷ l) = go (p x) refl (none-count p l)
  where
    go : (t : Bool) → p x ≡ t → every p l ≡ eqb (length (select (λ k. not (p k)) l)) 0 → every p (x ∷ l) ≡ eqb (length (select (λ k. not (p k)) (x ∷ l))) 0
    go true e h = rw e h
    go false e h = rw e (sym (ne_eqb (suc (length (select (λ k. not (p k)) l))) 0 (λ z. omega arith)))

first_some : (l : List ℕ) (n : ℕ) → ((k : ℕ) → In k l → 1 ≤ k) → not (eqb (get_or l 0 0) 0) ≡ ltb n (length l + n)
first_some [] n low = sym (le-ltb n (0 + n) (omega arith))
first_some (x ∷ l) n low = let h = low x (inl refl) in rw (ne_eqb x 0 (λ z. omega arith)) (sym (lt-ltb n (suc (length l) + n) (omega arith)))

place-count : (p : ℕ → Bool) (n : ℕ) → not (eqb (get_or (select p (interval 1 n)) 0 0) 0) ≡ ltb (length (select (λ k. not (p k)) (interval 1 n))) n
place-count p n =
    first_some (select p (interval 1 n)) (length (select (λ k. not (p k)) (interval 1 n))) (λ k i. (in-interval 1 n k (in-select p (interval 1 n) k i).0).0)
    ∙ ap (ltb (length (select (λ k. not (p k)) (interval 1 n)))) (select-split p n 1)

-- numbers that pass a test come once, and so do names that differ
some-once : (p : ℕ → Bool) (a k : ℕ) → distinct eqb (select p (interval a k)) ≡ true
some-once p a zero = refl
some-once p a (suc k) = go (p a) refl (some-once p (suc a) k)
  where
    away : has eqb a (select p (interval (suc a) k)) ≡ false
    away =
        is_false (has eqb a (select p (interval (suc a) k)))
        (λ t.
        let i = has_in eqb eqb-true (λ x. eq-eqb x x refl) a (select p (interval (suc a) k)) t in
        let w = (in-interval (suc a) k a (in-select p (interval (suc a) k) a i).0).0 in
        omega arith)

    go : (t : Bool) → p a ≡ t → distinct eqb (select p (interval (suc a) k)) ≡ true → distinct eqb (select p (interval a (suc k))) ≡ true
    go true e h = rw (e, away) h
    go false e h = rw e h

names-once : (f : ℕ → List ℕ) (l : List ℕ) → distinct eqb l ≡ true → ((j k : ℕ) → In j l → In k l → j ≢ k → f j ≢ f k) → distinct same (map f l) ≡ true
names-once f [] d g = refl
names-once f (x ∷ l) d g =
    let w = and_split (not (has eqb x l)) (distinct eqb l) d in
    let out : has same (f x) (map f l) ≡ false =
    is_false (has same (f x) (map f l))
    (λ t.
    let i = of_map f (f x) l (has_in same same-eq same_refl (f x) (map f l) t) in
    g x i.0 (inl refl) (inr i.1)
    (λ z. true-not-false (in-has eqb eqb-true (λ y. eq-eqb y y refl) x l (subst (λ (y : ℕ). In y l) (sym z) i.1)) (not-true _ w.0)) i.2) in
    rw out (names-once f l w.1 (λ j k i h. g j k (inr i) (inr h)))

length-map : (f : ℕ → List ℕ) (xs : List ℕ) → length (map f xs) ≡ length xs
length-map f [] = refl
length-map f (x ∷ xs) = ap suc (length-map f xs)

-- TWO LISTS of the same names are as long
without : List ℕ → List (List ℕ) → List (List ℕ)
without x [] = []
without x (k ∷ ks) = cond (same x k) ks (k ∷ without x ks)

without-length : (x : List ℕ) (ks : List (List ℕ)) → In x ks → length ks ≡ suc (length (without x ks))
unfolding without
without-length x [] x'' = elim x'' [ ]
without-length x (k ∷ ks) (inl e) = rw (e, same_refl k)
without-length x (k ∷ ks) (inr i) = go (same x k) (without-length x ks i)
  where
    go : (t : Bool) → length ks ≡ suc (length (without x ks)) → suc (length ks) ≡ suc (length (cond t ks (k ∷ without x ks)))
    go true h = refl
    go false h = ap suc h

without_in : (x y : List ℕ) (ks : List (List ℕ)) → In y ks → y ≢ x → In y (without x ks)
unfolding without
without_in x y [] i ne = elim i [ ]
without_in x y (k ∷ ks) i ne = go (same x k) refl i (λ j. without_in x y ks j ne)
  where
    go : (t : Bool) → same x k ≡ t → In y (k ∷ ks) → (In y ks → In y (without x ks)) → In y (cond t ks (k ∷ without x ks))
    go true e (inl q) ih = absurd (ne (q ∙ sym (same-eq x k e)))
    go true e (inr j) ih = j
    go false e (inl q) ih = inl q
    go false e (inr j) ih = inr (ih j)

no_more : (ns ks : List (List ℕ)) → distinct same ns ≡ true → ((x : List ℕ) → In x ns → In x ks) → length ns ≤ length ks
no_more [] ks d f = omega arith
no_more (x ∷ ns) ks d f =
    let w = and_split (not (has same x ns)) (distinct same ns) d in
    let away : (y : List ℕ) → In y ns → y ≢ x = λ y i z. true-not-false (in-has same same-eq same_refl x ns (subst (λ (q : List ℕ). In q ns) z i)) (not-true _ w.0) in
    let h = no_more ns (without x ks) w.1 (λ y i. without_in x y ks (f y (inr i)) (away y i)) in
    let l = without-length x ks (f x (inl refl)) in
    omega arith

listed-both : (m : Model) (at : List ℕ) (ns ks : List (List ℕ)) → Lists m at ns → Lists m at ks → length ns ≤ length ks
listed-both m at ns ks L K =
    no_more ns ks L.once
    (λ x i. has_in same same-eq same_refl x ks (K.whole x (every_in good_name ns x L.good i) (L.shown x (in-has same same-eq same_refl x ns i))))

pub as_many : (m : Model) (at : List ℕ) (ns ks : List (List ℕ)) → Lists m at ns → Lists m at ks → length ns ≡ length ks
as_many m at ns ks L K = let a = listed-both m at ns ks L K in let b = listed-both m at ks ns K L in omega arith

-- A PART MORE
module _ (x : List ℕ) where
  leading-snoc : (l : List (List ℕ)) → leading (l ++ (x ∷ [])) ≡ l
  leading-snoc [] = refl
  leading-snoc (p ∷ []) = refl
  leading-snoc (p ∷ q ∷ l) = ap (λ (r : List (List ℕ)). p ∷ r) (leading-snoc (q ∷ l))

  last_snoc : (l : List (List ℕ)) → last_part (l ++ (x ∷ [])) ≡ x
  last_snoc [] = refl
  last_snoc (p ∷ []) = refl
  last_snoc (p ∷ q ∷ l) = last_snoc (q ∷ l)

  good-snoc : (l : List (List ℕ)) → every good_name l ≡ true → good_name x ≡ true → every good_name (l ++ (x ∷ [])) ≡ true
  good-snoc [] h g = and-join g refl
  good-snoc (p ∷ l) h g = let w = and_split (good_name p) (every good_name l) h in and-join w.0 (good-snoc l w.1 g)

one_word : (name : List ℕ) → good_name name ≡ true → cut name ≡ name ∷ []
unfolding cut
one_word name g = ap cut (sym (append-nil name)) ∙ cut_word name [] [] (good_name-split name g).2 refl

-- where parts lead, exactly
lead-exact : (s : List ℕ) (b : ℕ) (ps : List (List ℕ)) → 1 ≤ length ps → resolve s b (leading ps) ≢ 0 → resolve s b ps ≡ child_of s (resolve s b (leading ps)) (last_part ps)
unfolding resolve
lead-exact s b [] h ne = absurd (omega arith)
lead-exact s b (p ∷ []) h ne = go (ℕ_discrete (child_of s b p) 0)
  where
    go : Dec (child_of s b p ≡ 0) → cond (eqb (child_of s b p) 0) 0 (child_of s b p) ≡ child_of s b p
    go (yes z) = rw (eq-eqb (child_of s b p) 0 z) (sym z)
    go (no n) = rw (ne_eqb (child_of s b p) 0 n)
lead-exact s b (p ∷ q ∷ ps) h ne = go (eqb (child_of s b p) 0) refl (lead-exact s (child_of s b p) (q ∷ ps) (omega arith))
  where
    go : (t : Bool) → eqb (child_of s b p) 0 ≡ t
        → (resolve s (child_of s b p) (leading (q ∷ ps)) ≢ 0 → resolve s (child_of s b p) (q ∷ ps) ≡ child_of s (resolve s (child_of s b p) (leading (q ∷ ps))) (last_part (q ∷ ps)))
        → resolve s b (p ∷ q ∷ ps) ≡ child_of s (resolve s b (p ∷ leading (q ∷ ps))) (last_part (q ∷ ps))
    go true e ih = absurd (ne (rw e))
    go false e ih =
        let r : resolve s b (p ∷ leading (q ∷ ps)) ≡ resolve s (child_of s b p) (leading (q ∷ ps)) = rw e in
        let w : resolve s b (p ∷ q ∷ ps) ≡ resolve s (child_of s b p) (q ∷ ps) = rw e in
        w ∙ ih (λ z. ne (r ∙ z)) ∙ ap (λ (y : ℕ). child_of s y (last_part (q ∷ ps))) (sym r)

-- A FOLDER, or the root: where its path leads
pub record Opened (s at : List ℕ) (b : ℕ) : Type 0 where
  pub level : ℕ
  pub inside : In (b, level) (dirs s)
  pub some : b ≢ 0
  pub leads : resolve s (root_of s) (parts at) ≡ b
  pub names : every good_name (parts at) ≡ true
  pub deep : shallow (parts at) ≡ true
  pub cuts : (name : List ℕ) → good_name name ≡ true → parts (child at name) ≡ parts at ++ (name ∷ [])

pub root_opened : (s : List ℕ) → Opened s [] (root_of s)
unfolding parts resolve shallow
root_opened s =
    record {
      level = max_levels;
      inside = root_in s (block_count s);
      some = λ z. omega arith;
      leads = refl;
      names = refl;
      deep = refl;
      cuts = λ name g. one_word name g;
    }

-- the blocks of a folder that a path shows
folder-blocks : (x : Node) → is_shown_folder (as_folder x) ≡ true → blocks x ≡ views.size_in (as_folder x)
folder-blocks nothing h = absurd (false≢true h)
folder-blocks (file f) h = absurd (false≢true h)
folder-blocks (folder d) h = refl

some-blocks : (m : Model) (path : List ℕ) → 1 ≤ length (parts path) → folder_blocks m path ≡ blocks (m.at path)
unfolding parts
some-blocks m [] h = absurd (omega arith)
some-blocks m (x ∷ xs) h = refl

child-parts : (at name : List ℕ) → 1 ≤ length (parts at) → good_name name ≡ true → parts (child at name) ≡ parts at ++ (name ∷ [])
unfolding parts
child-parts [] name h g = absurd (omega arith)
child-parts (x ∷ xs) name h g = go (eqb x slash) h
  where
    go : (t : Bool) → 1 ≤ length (cond t (cut xs) []) → cond t (cut (xs ++ (slash ∷ name))) [] ≡ cond t (cut xs) [] ++ (name ∷ [])
    go true l = cut-append xs name ∙ ap (λ (l : List (List ℕ)). cut xs ++ l) (one_word name g)
    go false l = absurd (omega arith)

module _ (s : List ℕ) (m : Model) (S : Shows s m) (ok : check s ≡ 0) (path : List ℕ) (r : directory_refusal s path ≡ 0) where
  abbrev T : Sound s
  T = sound s ok

  A : At is_directory s path
  A = directory-at-path s path r

  abbrev e : ℕ
  e = slot_at (directory s (home s path)) (path_slot is_directory s path)

  one-part : 1 ≤ length (parts path)
  unfolding path_ok
  one-part = leb-true 1 (length (parts path)) (and_split (leb 1 (length (parts path))) (every good_name (parts path)) A.good).0

  kid : In e (children s (home s path))
  kid = children-in s (home s path) (path_slot is_directory s path) A.named.low A.named.high A.named.typed

  child-is : child_of s (home s path) (last_part (parts path)) ≡ first_block s e
  unfolding child_of
  child-is =
      let l = A.named.low in
      let ne : path_slot is_directory s path ≢ 0 = λ z. omega arith in
      rw (sym (path-slot is_directory s path ne), ne_eqb (path_slot is_directory s path) 0 ne)

  good-parts : every good_name (parts path) ≡ true
  unfolding path_ok
  good-parts = (and_split (leb 1 (length (parts path))) (every good_name (parts path)) A.good).1

  few-parts : shallow (parts path) ≡ true
  unfolding directory_refusal
  few-parts = (require-zero (shallow (parts path)) 16 _ (require-zero (path_ok path) 8 _ r).1).0

  leads-to : resolve s (root_of s) (parts path) ≡ first_block s (entry_of is_directory s path)
  unfolding home entry_of
  leads-to = lead-exact s (root_of s) (parts path) one-part A.there ∙ child-is

  pub folder-opened : Opened s path (first_block s (entry_of is_directory s path))
  unfolding entry_of
  folder-opened =
      let c = child-dir s T (home s path, A.level) A.home-in e kid in
      record {
        level = c.0;
        inside = c.1;
        some = child-some s m S ok path A.good A.short (home s path, A.level) A.home-in (path_slot is_directory s path) A.named.low A.named.high A.named.typed;
        leads = leads-to;
        names = good-parts;
        deep = few-parts;
        cuts = λ name g. child-parts path name one-part g;
      }

  pub folder-size : size_at s (first_block s (entry_of is_directory s path)) ≡ folder_blocks m path
  unfolding entry_of folder_of
  folder-size =
      let a = (child_ok-split s (block_count s) (home s path) e ((T.tree.local (home s path, A.level) A.home-in).child e kid)).1 in
      let w : as_folder (m.at path) ≡ views.just (folder_of s (entry_of is_directory s path)) = sym (S.folders path) ∙ folder-shown s path r in
      a ∙ sym (ap views.size_in w) ∙ sym (folder-blocks (m.at path) (ap is_shown_folder w)) ∙ sym (some-blocks m path one-part)

-- WHAT IS IN IT
module _ (s : List ℕ) (m : Model) (S : Shows s m) (ok : check s ≡ 0) (at : List ℕ) (b : ℕ) (F : Opened s at b) where
  abbrev R : Sound s
  R = sound s ok

  abbrev place : ℕ → ℕ
  place k = slot_at (directory s b) k

  -- a name there, as a path
  module _ (name : List ℕ) (g : good_name name ≡ true) where
    abbrev there : List ℕ
    there = child at name

    pub child-ok : path_ok there ≡ true
    unfolding path_ok
    child-ok =
        let l = length-append (parts at) (name ∷ []) in
        rw (F.cuts name g) (and-join (le-leb 1 (length (parts at ++ (name ∷ []))) (omega arith)) (good-snoc name (parts at) F.names g))

    lead-there : leading (parts there) ≡ parts at
    lead-there = ap leading (F.cuts name g) ∙ leading-snoc name (parts at)

    pub child-home : home s there ≡ b
    unfolding home
    child-home = ap (resolve s (root_of s)) lead-there ∙ F.leads

    pub child-last : last_part (parts there) ≡ name
    child-last = ap last_part (F.cuts name g) ∙ last_snoc name (parts at)

    pub child-low : shallow (leading (parts there)) ≡ true
    child-low = ap shallow lead-there ∙ F.deep

    pub child-there : home s there ≢ 0
    child-there z = F.some (sym child-home ∙ z)

    pub child-named : (type : ℕ → Bool) (k : ℕ) → Named type s b name k → Named type s (home s there) (last_part (parts there)) k
    child-named type k N = subst (λ (y : ℕ). Named type s y (last_part (parts there)) k) (sym child-home) (subst (λ (y : List ℕ). Named type s b y k) (sym child-last) N)

    pub named-child : (type : ℕ → Bool) (k : ℕ) → Named type s (home s there) (last_part (parts there)) k → Named type s b name k
    named-child type k N = subst (λ (y : List ℕ). Named type s b y k) child-last (subst (λ (y : ℕ). Named type s y (last_part (parts there)) k) child-home N)

    -- something is at it exactly if a slot has it
    pub slot-some : (k : ℕ) → Named is_used s b name k → shows_nothing (m.at there) ≡ false
    slot-some k N = some-there s m S ok there child-ok child-low child-there (found s m S ok there child-ok child-low child-there is_used k (child-named is_used k N))

    pub some-slot : shows_nothing (m.at there) ≡ false → (k : ℕ) × Named is_used s b name k
    some-slot h =
        let ne : path_slot is_used s there ≢ 0 = eqb-false _ 0 (taken-shown s m S ok there child-ok child-low child-there ∙ h) in
        (path_slot is_used s there, named-child is_used (path_slot is_used s there) (path-named is_used s there ne))

  -- the slots in use
  module _ (k : ℕ) (k₁ : 1 ≤ k) (k₂ : k < 4 * size_at s b - 1) (used : type_of s (place k) ≢ 0) where
    pub slot-kind : ((is_file (type_of s (place k)) ≡ true) × (file_ok s (place k) ≡ true)) ⊎ ((is_directory (type_of s (place k)) ≡ true) × (directory_entry_ok s (place k) ≡ true))
    slot-kind = ⊎_elim (λ z. absurd (used z)) (λ w. w) (slot_ok-split s (place k) ((R.tree.local (b, F.level) F.inside).slot k (slots-in s b k k₁ k₂)))

    pub slot-name_ok : name_ok s (place k) ≡ true
    unfolding file_ok directory_entry_ok
    slot-name_ok = ⊎_elim (λ w. (and_split (name_ok s (place k)) _ w.1).0) (λ w. (and_split (name_ok s (place k)) _ w.1).0) slot-kind

    pub slot-good : good_name (name_of s (place k)) ≡ true
    unfolding name_ok
    slot-good = (and_split (good_name (name_of s (place k))) _ slot-name_ok).0

    pub slot-named : Named is_used s b (name_of s (place k)) k
    slot-named = record { low = k₁; high = k₂; typed = rw (ne_eqb (type_of s (place k)) 0 used); named = refl }

    pub slot-shown : shows_nothing (m.at (child at (name_of s (place k)))) ≡ false
    slot-shown = slot-some (name_of s (place k)) slot-good k slot-named

  in-used : (k : ℕ) → In k (used_slots s b) → (1 ≤ k) × (k < 4 * size_at s b - 1) × (type_of s (place k) ≢ 0)
  unfolding used_slots
  in-used k i =
      let w = in-select (λ x. is_used (type_of s (slot_at (directory s b) x))) (slots (directory s b)) k i in
      let h = in-slots s b k w.0 in
      (h.0, h.1, eqb-false _ 0 (not-true _ w.1))

  used-in : (k : ℕ) → 1 ≤ k → k < 4 * size_at s b - 1 → is_used (type_of s (place k)) ≡ true → In k (used_slots s b)
  unfolding used_slots
  used-in k h g t = select_has (λ x. is_used (type_of s (slot_at (directory s b) x))) (slots (directory s b)) k (slots-in s b k h g) t

  apart : (j k : ℕ) → In j (used_slots s b) → In k (used_slots s b) → j ≢ k → name_of s (place j) ≢ name_of s (place k)
  apart j k i h ne =
      let x = in-used j i in
      let y = in-used k h in
      names-differ s R (b, F.level) F.inside j k x.0 y.0 x.1 y.1 ne x.2 y.2

  used-once : distinct eqb (used_slots s b) ≡ true
  unfolding used_slots
  used-once = some-once (λ x. is_used (type_of s (slot_at (directory s b) x))) 1 (4 * length (directory s b) - 2)

  name-good : (name : List ℕ) → (k : ℕ) × In k (used_slots s b) × (name ≡ name_of s (place k)) → good_name name ≡ true
  name-good name w = let x = in-used w.0 w.1 in rw w.2 (slot-good w.0 x.0 x.1 x.2)

  name-shown : (name : List ℕ) → (k : ℕ) × In k (used_slots s b) × (name ≡ name_of s (place k)) → shows_nothing (m.at (child at name)) ≡ false
  name-shown name w = let x = in-used w.0 w.1 in rw w.2 (slot-shown w.0 x.0 x.1 x.2)

  -- THE NAMES
  pub listed : Lists m at (names_in s b)
  unfolding names_in
  listed =
      record {
        good = in-every good_name (map (λ k. name_of s (place k)) (used_slots s b)) (λ name i. name-good name (of_map (λ k. name_of s (place k)) name (used_slots s b) i));
        once = names-once (λ k. name_of s (place k)) (used_slots s b) used-once apart;
        shown = λ name h. name-shown name (of_map (λ k. name_of s (place k)) name (used_slots s b) (has_in same same-eq same_refl name (map (λ k. name_of s (place k)) (used_slots s b)) h));
        whole = λ name g h.
            let w = some-slot name g h in
            in-has same same-eq same_refl name (map (λ k. name_of s (place k)) (used_slots s b))
            (subst (λ (y : List ℕ). In y (map (λ k. name_of s (place k)) (used_slots s b))) w.1.named
            (to_map (λ k. name_of s (place k)) w.0 (used_slots s b) (used-in w.0 w.1.low w.1.high w.1.typed)));
      }

  length-names : length (names_in s b) ≡ length (used_slots s b)
  unfolding names_in
  length-names = length-map (λ k. name_of s (place k)) (used_slots s b)

  -- 13 and 18 count them
  pub place-counted : not (eqb (free_slot s (directory s b)) 0) ≡ ltb (length (names_in s b)) (4 * size_at s b - 2)
  unfolding free_slot used_slots
  place-counted =
      place-count (λ k. is_free (type_of s (slot_at (directory s b) k))) (4 * length (directory s b) - 2)
      ∙ ap (λ (x : ℕ). ltb (length (used_slots s b)) (4 * x - 2)) (length-directory s b) ∙ ap (λ (x : ℕ). ltb x (4 * size_at s b - 2)) (sym length-names)

  pub empty-counted : is_empty s b ≡ eqb (length (names_in s b)) 0
  unfolding is_empty used_slots
  empty-counted = none-count (λ k. is_free (type_of s (slot_at (directory s b) k))) (slots (directory s b)) ∙ ap (λ (x : ℕ). eqb x 0) (sym length-names)
