-- What a put has found: the refusals of its test, and what its entry is by the size found.
use Prim.Native.Nat.{ℕ, suc, ◌≤◌, ◌<◌}
use mathlib.Core.Path.{◌≡◌, refl, sym, ap, ◌∙◌}
use mathlib.Core.Bool.{Bool, true, false, ◌&&◌}
use mathlib.Core.List.{List}
use native.Mathlib.Omega.{arith}
use borrow.Author.Tests.{lt-leb, le-leb}
use lib.ListN.{length, get_or, drop}
use lib.Dec.{eqb, leb}
use Rattle.std.specs.Prelude.{Result, Ok, Err, IfOk, IsOk}
use Rattle.layout.specs.declared.file.File.{File}
use Rattle.layout.specs.declared.refusal.Refusal.{Refusal}
use Rattle.layout.specs.Reasons.{number_of}
use Rattle.layout.proofs.Laws.Reasons.{reason}
use Rattle.layout.specs.Lists.{within, every}
use Rattle.layout.specs.Refusals.{require}
use Rattle.layout.specs.Geometry.{block_count}
use Rattle.layout.specs.Table.{next, free_blocks}
use Rattle.layout.specs.Bytes.{be32}
use Rattle.layout.specs.Directory.{is_file, content}
use Rattle.layout.specs.Check.{check}
use Rattle.layout.specs.Paths.{file_refusal}
use Rattle.layout.specs.Walks.Looks.{Located}
use Rattle.layout.specs.Walks.Slots as slots
use Rattle.volume.specs.Change as volume
use Rattle.volume.specs.Walks.Targets as found
use Rattle.store.specs.Change.{plain, put_in, refusal}
use Rattle.store.specs.Walks.Targets.{Target, PreparedFor}
use Rattle.volume.specs.Create.{place_refusal}
use Rattle.volume.specs.Write.{write_at, write_named, write_at_refusal}
use Rattle.volume.specs.Walks.Places.{Searched, SearchedFor}
use Rattle.volume.specs.Walks.Targets.{Standing}
use Rattle.store.specs.Settings.{max_setting, Revision, Found, broken, held, revisions, latest}
use Rattle.store.specs.Put.{path_of, is_there, put_image, put_named, put_revision, form_refusal, put_refusal}
use Rattle.store.specs.Walks.Puts.{held_at, rewritten_at, more_refusal, first_refusal, Weighed, WeighedFor, PutTarget, PutPrepared, PutPreparedFor}
use Rattle.store.specs.Walks.Addresses.{Addressed}
use Rattle.layout.proofs.Laws.Tests.{and_split, within-split, first_of-zero, first_of-refused, true-not-false}
use Rattle.layout.proofs.Laws.Sound.{sound}
use Rattle.layout.proofs.Laws.Owners.{free-count}
use Rattle.volume.proofs.Laws.Effects.{content-length}
use Rattle.store.proofs.Laws.Added.{held-cond}
use Rattle.store.proofs.Laws.Serials.{there-accepted}
use Rattle.store.proofs.Laws.Put.{put-serial, put-short}
use Rattle.store.proofs.Walks.Refusals.{there-refusal, there-opened, there-entry, there-stored, there-rewritten, absent-refusal}

-- what is known of an answer that is a refusal
pub weighed-why : (s : List ℕ) (e : ℕ) (bytes : List ℕ) (why : Refusal) → number_of why ≡ form_refusal (revisions (content s e)) → Weighed s e bytes (number_of why) 0
weighed-why s e bytes why q = record { number_is = q; size_is = λ z. absurd (reason why z); small = λ z. absurd (reason why z) }

pub searched-why : (s path : List ℕ) (refusal : ℕ) (why : Refusal) → number_of why ≡ refusal → Searched s path refusal (number_of why) 0 0 0
searched-why s path refusal why q = record { number_is = q; vacant = λ z. absurd (reason why z) }

-- the refusal of a put to a file, by what was found out of it
module _ {s : List ℕ} {e : ℕ} {bytes : List ℕ} {number size : ℕ} (W : Weighed s e bytes number size) where
  pub more-refused : (number ≡ 0 → ⊥) → number ≡ more_refusal s e bytes
  unfolding more_refusal
  more-refused h = sym (rw (← W.number_is) (first_of-refused number (write_at_refusal s e 0 (length (rewritten_at s e bytes))) h))

  pub more-written : number ≡ 0 → (w : ℕ) → w ≡ write_at_refusal s e 0 size → w ≡ more_refusal s e bytes
  unfolding more_refusal
  more-written z w q = q ∙ sym (rw (← W.number_is, z, W.size_is z))

  -- of an accepted one
  pub more-weighed : more_refusal s e bytes ≡ 0 → (number ≡ 0) × (write_at_refusal s e 0 size ≡ 0)
  unfolding more_refusal
  more-weighed r =
      let a = first_of-zero (form_refusal (revisions (content s e))) _ r in
      let z : number ≡ 0 = W.number_is ∙ a.0 in
      (z, ap (write_at_refusal s e 0) (W.size_is z) ∙ a.1)

-- of an accepted put the size is found
pub weighed-ok : (s : List ℕ) (e : ℕ) (bytes : List ℕ) (r : Result ℕ Refusal) → WeighedFor s e bytes r → more_refusal s e bytes ≡ 0 → IsOk r
weighed-ok s e bytes (Ok size) w z = refl
weighed-ok s e bytes (Err why) w z = absurd (reason why (more-weighed (weighed-why s e bytes why w) z).0)

-- the place of a first put, by the place found and the free blocks
module _ (s path : List ℕ) (ok : check s ≡ 0) {n h slot b : ℕ} (S : Searched s path (place_refusal s path) n h slot b) where
  pub first-refused : (n ≡ 0 → ⊥) → (r h' slot' b' : ℕ) → r ≡ n → Searched s path (first_refusal s path) r h' slot' b'
  unfolding first_refusal
  first-refused ne r h' slot' b' q =
      record { number_is = q ∙ sym (rw (← S.number_is) (first_of-refused n (require (leb 1 (length (free_blocks (next s) (block_count s)))) 14 0) ne)); vacant = λ z. absurd (ne (sym q ∙ z)) }

  module _ (z : n ≡ 0) (free : ℕ) (f : free ≡ be32 s 24) where
    by-free : first_refusal s path ≡ require (leb 1 free) 14 0
    unfolding first_refusal
    by-free = rw (← S.number_is, z, free-count s (sound s ok), ← f)

    pub first-none : free < 1 → (r h' slot' b' : ℕ) → r ≡ 14 → Searched s path (first_refusal s path) r h' slot' b'
    first-none few r h' slot' b' q = record { number_is = q ∙ sym (by-free ∙ rw (lt-leb 1 free few)); vacant = λ y. absurd (omega arith) }

    pub first-place : 1 ≤ free → Searched s path (first_refusal s path) 0 h slot b
    first-place some = record { number_is = sym (by-free ∙ rw (le-leb 1 free some)); vacant = λ y. S.vacant z }

-- a file of the form has bytes
held-long : (c : List ℕ) (rs : List Revision) → revisions c ≡ held rs → 5 ≤ length c
unfolding revisions
held-long c rs q =
    let a = held-cond (eqb (get_or c 0 0) 1 && (within 5 (length c) (be32 c 1) && every (λ x. eqb x 0) (drop (be32 c 1) c))) _ rs q in
    let b = and_split (eqb (get_or c 0 0) 1) _ a.0 in
    let w = within-split 5 (length c) (be32 c 1) (and_split (within 5 (length c) (be32 c 1)) _ b.1).0 in
    omega (arith, w.0, w.1)

form-long : (c : List ℕ) → form_refusal (revisions c) ≡ 0 → 5 ≤ length c
form-long c z = go (revisions c) refl z
  where
    go : (x : Found) → revisions c ≡ x → form_refusal x ≡ 0 → 5 ≤ length c
    go broken q y = absurd (omega arith)
    go (held rs) q y = held-long c rs q

module _ (s directory serial : List ℕ) (time : ℕ) (bytes : List ℕ) where
  pub prepared-refused : (number slot b first size blocks : ℕ) → number ≡ put_refusal s directory serial time bytes → (number ≡ 0 → ⊥) → PutPrepared s directory serial time bytes number slot b first size blocks
  prepared-refused number slot b first size blocks q h = record { number_is = q; target = λ z. absurd (h z) }

  module _ (right : Addressed directory serial) (short : length bytes ≤ max_setting) (ok : check s ≡ 0) where
    -- there is no file
    pub prepared-first : is_there s directory serial ≡ false → (number slot b first size blocks : ℕ) → Searched s (path_of directory serial) (first_refusal s (path_of directory serial)) number first slot b → size ≡ 0
        → PutPrepared s directory serial time bytes number slot b first size blocks
    prepared-first absent number slot b first size blocks S z =
        record {
          number_is = S.number_is ∙ sym (absent-refusal s directory serial time bytes right short absent ok);
          target = λ y. record { file = λ t. absurd (true-not-false t absent); place = λ a. (S.vacant y, z) };
        }

    -- there is one
    module _ (there : is_there s directory serial ≡ true) {slot b first size blocks : ℕ} (L : Located is_file s (path_of directory serial) slot b first size blocks) where
      pub there-more : put_refusal s directory serial time bytes ≡ more_refusal s (slots.entry_at b slot) bytes
      there-more = there-refusal s directory serial time bytes right short there ∙ ap (λ (x : ℕ). more_refusal s x bytes) (sym L.place)

      some : more_refusal s (slots.entry_at b slot) bytes ≡ 0 → 0 < size
      unfolding more_refusal
      some r =
          let f = (first_of-zero (form_refusal (revisions (content s (slots.entry_at b slot)))) _ r).0 in
          let l : length (content s (slots.entry_at b slot)) ≡ size = rw L.place (content-length s (path_of directory serial) ok (there-accepted s directory serial right there)) ∙ sym L.bytes in
          omega (arith, form-long (content s (slots.entry_at b slot)) f, l)

      pub prepared-more : (number : ℕ) → number ≡ 0 → 0 ≡ more_refusal s (slots.entry_at b slot) bytes → PutPrepared s directory serial time bytes number slot b first size blocks
      prepared-more number z r =
          record {
            number_is = z ∙ r ∙ sym there-more;
            target = λ y. record { file = λ t. (L, some (sym r)); place = λ a. absurd (true-not-false there a) };
          }

-- AN ACCEPTED PUT, by the size that was found
module _ {s directory serial : List ℕ} {slot b first size blocks : ℕ} (T : PutTarget s directory serial slot b first size blocks) where
  pub target-absent : size ≡ 0 → is_there s directory serial ≡ false
  target-absent z = go (is_there s directory serial) refl
    where
      go : (x : Bool) → is_there s directory serial ≡ x → x ≡ false
      go true q = absurd (omega (arith, (T.file q).1))
      go false q = refl

  pub target-there : (size ≡ 0 → ⊥) → is_there s directory serial ≡ true
  target-there h = go (is_there s directory serial) refl
    where
      go : (x : Bool) → is_there s directory serial ≡ x → x ≡ true
      go true q = refl
      go false q = absurd (h (T.place q).1)

  module _ (time : ℕ) (bytes : List ℕ) (ok : check s ≡ 0) (r : put_refusal s directory serial time bytes ≡ 0) (some : size ≡ 0 → ⊥) where
    right : Addressed directory serial
    right = put-serial s directory serial time bytes ok r

    there : is_there s directory serial ≡ true
    there = target-there some

    L : Located is_file s (path_of directory serial) slot b first size blocks
    L = (T.file there).0

    pub target-short : length bytes ≤ max_setting
    target-short = put-short s directory serial time bytes ok r

    pub target-standing : Standing s (file_refusal s) slot b first size blocks
    target-standing = record { path = path_of directory serial; accepted = there-accepted s directory serial right there; located = L }

    pub target-given : more_refusal s (slots.entry_at b slot) bytes ≡ 0
    target-given = sym (there-more s directory serial time bytes right target-short ok there L) ∙ r

    pub target-named : write_named s (slots.entry_at b slot) 0 (length (rewritten_at s (slots.entry_at b slot) bytes)) ≡ put_named s directory serial time bytes
    unfolding put_named
    target-named = rw (L.place, there-rewritten s directory serial time bytes right target-short there, there-entry s directory serial time bytes right target-short there, there-opened s directory serial time bytes right target-short there)

    pub target-image : write_at s (slots.entry_at b slot) 0 (rewritten_at s (slots.entry_at b slot) bytes) time ≡ put_image s directory serial time bytes
    unfolding put_image
    target-image = rw (L.place, there-rewritten s directory serial time bytes right target-short there, there-entry s directory serial time bytes right target-short there, there-opened s directory serial time bytes right target-short there)

    pub target-revision : suc (latest (held_at s (slots.entry_at b slot))) ≡ put_revision s directory serial
    unfolding put_revision
    target-revision = rw (L.place, there-stored s directory serial time bytes right target-short there)

-- the answer for a place of a first put, as that of a put
module _ (s directory serial : List ℕ) (time : ℕ) (bytes : List ℕ) (right : Addressed directory serial) (short : length bytes ≤ max_setting) (ok : check s ≡ 0)
    (absent : is_there s directory serial ≡ false) where
  pub prepared-first-for : (r : Result File Refusal) → SearchedFor s (path_of directory serial) (first_refusal s (path_of directory serial)) r → IfOk r (λ f. f.size ≡ 0)
      → PutPreparedFor s directory serial time bytes r
  prepared-first-for (Ok f) S z = prepared-first s directory serial time bytes right short ok absent 0 f.slot f.block f.first f.size f.blocks S z
  prepared-first-for (Err why) S z = (prepared-first s directory serial time bytes right short ok absent (number_of why) 0 0 0 0 0 (searched-why s (path_of directory serial) _ why S) refl).number_is

-- what is found for a change of the volume, and for a put, as what a change is about
pub prepared-volume : (s : List ℕ) (c : volume.Change) (r : Result File Refusal) → found.PreparedFor s c r → PreparedFor s (plain c) r
unfolding refusal Target
prepared-volume s c (Ok f) p = record { number_is = p.number_is; target = p.target }
prepared-volume s c (Err why) p = p

pub prepared-put : (s directory serial : List ℕ) (time : ℕ) (bytes : List ℕ) (r : Result File Refusal) → PutPreparedFor s directory serial time bytes r
    → PreparedFor s (put_in directory serial time bytes) r
unfolding refusal Target
prepared-put s directory serial time bytes (Ok f) p = record { number_is = p.number_is; target = p.target }
prepared-put s directory serial time bytes (Err why) p = p
