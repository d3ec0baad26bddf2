-- A directory and a serial number as a path; what the store reads is what its path shows.
use Prim.Native.Nat.{ℕ, zero, suc, ◌≤◌, ◌<◌}
use mathlib.Core.Path.{◌≡◌, refl, sym, ap, ◌∙◌}
use mathlib.Core.Bool.{Bool, true, false, not, ◌&&◌, cond}
use mathlib.Core.List.{List, [], ◌∷◌, ◌++◌}
use mathlib.Core.Logic.{◌⊎◌, inl, inr, ⊎_elim}
use native.Mathlib.Omega.{arith}
use borrow.Author.Tests.{eqb-true, ne_eqb, leb-true, le-leb}
use lib.ListN.{length}
use lib.Dec.{eqb, leb}
use Rattle.layout.specs.Limits.{max_name, max_levels}
use Rattle.layout.specs.Lists.{within, every}
use Rattle.layout.specs.Refusals.{require}
use Rattle.layout.specs.Directory.{is_file, slash, name_byte, good_name, content}
use Rattle.layout.specs.Check.{check}
use Rattle.layout.specs.Looks.{is_root_path}
use Rattle.layout.specs.Paths.{longer, cut, parts, path_ok, leading, shallow, path_slot, entry_of, file_refusal}
use Rattle.volume.specs.Views.{File, Maybe, nothing, just, file_of, file_at}
use Rattle.store.specs.Settings.{max_setting, held, revisions}
use Rattle.store.specs.Put.{serial_byte, serial_ok, directory_ok, front, path_of, address_refusal, is_there, stored}
use Rattle.store.specs.Get.{Which, get_refusal, get_in}
use Rattle.store.specs.Views.{stored_in}
use Rattle.store.specs.Walks.Addresses.{Addressed}
use Rattle.layout.proofs.Walks.Paths.{cut-some}
use Rattle.layout.proofs.Laws.Tests.{and_split, and-join, or_split, within-split, within-join, require-zero, true-or-false, true-not-false}
use Rattle.volume.proofs.Laws.Views.{file-shown, none-shown}

-- a byte of a serial number
module _ (x : ℕ) (h : serial_byte x ≡ true) where
  pub high : 0x30 ≤ x
  high = ⊎_elim (λ a. (within-split 0x30 0x39 x a).0)
      (λ b. ⊎_elim (λ a. let w = (within-split 0x41 0x5A x a).0 in omega arith) (λ a. let w = (within-split 0x61 0x7A x a).0 in omega arith) (or_split (within 0x41 0x5A x) _ b)) (or_split (within 0x30 0x39 x) _ h)

  byte-good : name_byte x ≡ true
  byte-good = let g = high in rw (ne_eqb x 0 (λ q. omega arith), ne_eqb x slash (λ q. omega arith))

bytes_good : (xs : List ℕ) → every serial_byte xs ≡ true → every name_byte xs ≡ true
bytes_good [] h = refl
bytes_good (x ∷ xs) h = let a = and_split (serial_byte x) _ h in and-join (byte-good x a.0) (bytes_good xs a.1)

one-part : (xs : List ℕ) → every serial_byte xs ≡ true → cut xs ≡ xs ∷ []
unfolding cut
one-part [] h = refl
one-part (x ∷ xs) h =
    let a = and_split (serial_byte x) _ h in
    let g = high x a.0 in
    rw (ne_eqb x slash (λ q. omega arith), one-part xs a.1)

pub serial-letters : (serial : List ℕ) → serial_ok serial ≡ true → every serial_byte serial ≡ true
unfolding serial_ok
serial-letters serial ok = (and_split (within 1 16 (length serial)) _ ok).1

root-parts : (serial : List ℕ) → every serial_byte serial ≡ true → parts (slash ∷ serial) ≡ serial ∷ []
unfolding parts
root-parts serial h = one-part serial h

pub parts-good : (path : List ℕ) → path_ok path ≡ true → every good_name (parts path) ≡ true
unfolding path_ok
parts-good path ok = (and_split (leb 1 (length (parts path))) _ ok).1

-- bytes cut at each `/`, with a `/` between
pub cut-append : (xs ys : List ℕ) → cut (xs ++ (slash ∷ ys)) ≡ cut xs ++ cut ys
unfolding cut
cut-append [] ys = refl
cut-append (x ∷ xs) ys = go (eqb x slash) (cut xs) (cut-some xs) (cut (xs ++ (slash ∷ ys))) (cut-append xs ys)
  where
    go : (t : Bool) (ps : List (List ℕ)) → 0 < length ps → (qs : List (List ℕ)) → qs ≡ ps ++ cut ys → cond t ([] ∷ qs) (longer x qs) ≡ cond t ([] ∷ ps) (longer x ps) ++ cut ys
    go true ps h qs q = ap (λ (l : List (List ℕ)). [] ∷ l) q
    go false [] h qs q = absurd (omega arith)
    go false (p ∷ ps) h qs q = ap (longer x) q

parts_below : (directory ys : List ℕ) → 1 ≤ length (parts directory) → parts (directory ++ (slash ∷ ys)) ≡ parts directory ++ cut ys
unfolding parts
parts_below [] ys h = absurd (omega arith)
parts_below (x ∷ xs) ys h = go (eqb x slash) h
  where
    go : (t : Bool) → 1 ≤ length (cond t (cut xs) []) → cond t (cut (xs ++ (slash ∷ ys))) [] ≡ cond t (cut xs) [] ++ cut ys
    go true l = cut-append xs ys
    go false l = absurd (omega arith)

-- parts with one more at the end
module _ (p : List ℕ) where
  pub leading-snoc : (ps : List (List ℕ)) → leading (ps ++ (p ∷ [])) ≡ ps
  leading-snoc [] = refl
  leading-snoc (q ∷ []) = refl
  leading-snoc (q ∷ r ∷ ps) = ap (λ (l : List (List ℕ)). q ∷ l) (leading-snoc (r ∷ ps))

  snoc-good : (ps : List (List ℕ)) → every good_name ps ≡ true → good_name p ≡ true → every good_name (ps ++ (p ∷ [])) ≡ true
  snoc-good [] h g = and-join g refl
  snoc-good (q ∷ ps) h g = let a = and_split (good_name q) _ h in and-join a.0 (snoc-good ps a.1 g)

  snoc-some : (ps : List (List ℕ)) → leb 1 (length (ps ++ (p ∷ []))) ≡ true
  snoc-some [] = refl
  snoc-some (q ∷ ps) = le-leb 1 (suc (length (ps ++ (p ∷ [])))) (omega arith)

-- the directories of a directory's path, none of the root's
abbrev pub ways : List ℕ → List (List ℕ)
ways directory = cond (is_root_path directory) [] (parts directory)

module _ (directory : List ℕ) (ok : directory_ok directory ≡ true) where
  pub below-path : is_root_path directory ≡ false → path_ok directory ≡ true
  unfolding directory_ok
  below-path q = rw q at ok

  pub below-some : is_root_path directory ≡ false → 1 ≤ length (parts directory)
  unfolding path_ok
  below-some q = leb-true 1 (length (parts directory)) (and_split (leb 1 (length (parts directory))) _ (below-path q)).0

  ways-good : every good_name (ways directory) ≡ true
  ways-good = go (is_root_path directory) refl
    where
      go : (t : Bool) → is_root_path directory ≡ t → every good_name (cond t [] (parts directory)) ≡ true
      go true q = refl
      go false q = parts-good directory (below-path q)

  module _ (serial : List ℕ) (ok' : serial_ok serial ≡ true) where
    pub path-parts : parts (path_of directory serial) ≡ ways directory ++ (serial ∷ [])
    unfolding path_of front
    path-parts = go (is_root_path directory) refl
      where
        go : (t : Bool) → is_root_path directory ≡ t → parts (cond t [] directory ++ (slash ∷ serial)) ≡ cond t [] (parts directory) ++ (serial ∷ [])
        go true q = root-parts serial (serial-letters serial ok')
        go false q = parts_below directory serial (below-some q) ∙ ap (λ (l : List (List ℕ)). parts directory ++ l) (one-part serial (serial-letters serial ok'))

    pub path-leading : leading (parts (path_of directory serial)) ≡ ways directory
    path-leading = ap leading path-parts ∙ leading-snoc serial (ways directory)

-- what an address is asked
pub addressed : (directory serial : List ℕ) (fits : Bool) → address_refusal directory serial fits ≡ 0 → Addressed directory serial × (fits ≡ true)
unfolding address_refusal
addressed directory serial fits r =
    let a = require-zero (directory_ok directory && (serial_ok serial && fits)) 21 _ r in
    let b = and_split (directory_ok directory) _ a.0 in
    let c = and_split (serial_ok serial) _ b.1 in
    let d = require-zero (shallow (leading (parts (path_of directory serial)))) 16 _ a.1 in
    (record { folder = b.0; named = c.0; flat = d.0 }, c.1)

pub address-not-ten : (directory serial : List ℕ) (fits : Bool) → address_refusal directory serial fits ≡ 10 → ⊥
unfolding address_refusal
address-not-ten directory serial fits r = go (directory_ok directory && (serial_ok serial && fits)) (shallow (leading (parts (path_of directory serial)))) r
  where
    go : (a b : Bool) → require a 22 (require b 17 0) ≡ 10 → ⊥
    go true true q = omega arith
    go true false q = omega arith
    go false b q = omega arith

module _ (directory serial : List ℕ) (ok : Addressed directory serial) where
  pub address-right : (fits : Bool) → fits ≡ true → address_refusal directory serial fits ≡ 0
  unfolding address_refusal
  address-right fits f = rw (ok.folder, ok.named, f, ok.flat)

  serial-good : good_name serial ≡ true
  unfolding good_name serial_ok
  serial-good =
      let w = within-split 1 16 (length serial) (and_split (within 1 16 (length serial)) _ ok.named).0 in
      and-join (within-join 1 max_name (length serial) w.0 (let h = w.1 in omega arith)) (bytes_good serial (serial-letters serial ok.named))

  pub serial-path : path_ok (path_of directory serial) ≡ true
  unfolding path_ok
  serial-path = rw (path-parts directory ok.folder serial ok.named) (and-join (snoc-some serial (ways directory)) (snoc-good serial (ways directory) (ways-good directory ok.folder) serial-good))

  pub serial-shallow : shallow (leading (parts (path_of directory serial))) ≡ true
  serial-shallow = ok.flat

  pub ways-few : length (ways directory) ≤ 8
  unfolding shallow
  ways-few = let e = path-leading directory ok.folder serial ok.named in leb-true (length (ways directory)) max_levels (rw e at ok.flat)

-- WHAT THE STORE READS
abbrev pub is_in : Maybe File → Bool
is_in nothing = false
is_in (just f) = true

module _ (s directory serial : List ℕ) (ok : Addressed directory serial) where
  pub there-accepted : is_there s directory serial ≡ true → file_refusal s (path_of directory serial) ≡ 0
  unfolding is_there file_refusal
  there-accepted t = rw (serial-path directory serial ok, serial-shallow directory serial ok, t)

  pub there-shown : is_there s directory serial ≡ true → file_at s (path_of directory serial) ≡ just (file_of s (entry_of is_file s (path_of directory serial)))
  there-shown t = file-shown s (path_of directory serial) (there-accepted t)

  pub absent-shown : is_there s directory serial ≡ false → file_at s (path_of directory serial) ≡ nothing
  unfolding is_there
  absent-shown f = none-shown s (path_of directory serial) (eqb-true _ _ (not-false (eqb (path_slot is_file s (path_of directory serial)) 0) f))
    where
      not-false : (b : Bool) → not b ≡ false → b ≡ true
      not-false true q = refl
      not-false false q = absurd (true-not-false refl q)

  pub there-view : is_there s directory serial ≡ is_in (file_at s (path_of directory serial))
  there-view = go (true-or-false (is_there s directory serial))
    where
      go : (is_there s directory serial ≡ true) ⊎ (is_there s directory serial ≡ false) → is_there s directory serial ≡ is_in (file_at s (path_of directory serial))
      go (inl t) = t ∙ ap is_in (sym (there-shown t))
      go (inr f) = f ∙ ap is_in (sym (absent-shown f))

  pub stored-view : stored s directory serial ≡ stored_in (file_at s (path_of directory serial))
  unfolding stored file_of
  stored-view = go (true-or-false (is_there s directory serial))
    where
      go : (is_there s directory serial ≡ true) ⊎ (is_there s directory serial ≡ false) → stored s directory serial ≡ stored_in (file_at s (path_of directory serial))
      go (inl t) = ap (λ (w : Bool). cond w (revisions (content s (entry_of is_file s (path_of directory serial)))) (held [])) t ∙ ap stored_in (sym (there-shown t))
      go (inr f) = ap (λ (w : Bool). cond w (revisions (content s (entry_of is_file s (path_of directory serial)))) (held [])) f ∙ ap stored_in (sym (absent-shown f))

-- an answer is told by the check and what the path shows
pub answer-same : (s s' directory serial : List ℕ) → check s' ≡ check s → file_at s' (path_of directory serial) ≡ file_at s (path_of directory serial) → (which : Which) (buffer : List ℕ)
    → get_in s' directory serial which buffer ≡ get_in s directory serial which buffer
unfolding get_in get_refusal
answer-same s s' directory serial c q which buffer = go (address_refusal directory serial (leb max_setting (length buffer))) refl
  where
    go : (k : ℕ) → address_refusal directory serial (leb max_setting (length buffer)) ≡ k → get_in s' directory serial which buffer ≡ get_in s directory serial which buffer
    go zero z =
        let ok = (addressed directory serial _ z).0 in
        let a : is_there s' directory serial ≡ is_there s directory serial = there-view s' directory serial ok ∙ ap is_in q ∙ sym (there-view s directory serial ok) in
        let b : stored s' directory serial ≡ stored s directory serial = stored-view s' directory serial ok ∙ ap stored_in q ∙ sym (stored-view s directory serial ok) in
        rw (c, a, b)
    go (suc k) bad = by-check (check s) refl
      where
        by-check : (j : ℕ) → check s ≡ j → get_in s' directory serial which buffer ≡ get_in s directory serial which buffer
        by-check zero z = rw (c, z, bad)
        by-check (suc j) z = rw (c, z)
