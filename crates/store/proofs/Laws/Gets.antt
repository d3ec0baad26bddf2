-- What a get answers, by the revisions that the file holds; and after a put.
use Prim.Native.Nat.{ℕ, zero, suc, ◌+◌, ◌-◌, ◌≤◌, ◌<◌}
use mathlib.Core.Path.{◌≡◌, refl, sym, ap, ◌∙◌}
use mathlib.Core.Bool.{Bool, true, false, cond}
use mathlib.Core.List.{List, [], ◌∷◌}
use mathlib.Core.Logic.{inl, inr, ◌≢◌}
use native.Mathlib.Omega.{arith}
use borrow.Author.Tests.{leb-true, le-leb}
use lib.ListN.{length}
use lib.Dec.{eqb, leb}
use Rattle.layout.specs.Bytes.{splice}
use Rattle.layout.specs.Directory.{is_file, content}
use Rattle.layout.specs.Check.{check}
use Rattle.layout.specs.Paths.{entry_of}
use Rattle.store.specs.Settings.{max_setting, Revision, Found, broken, held, revisions, latest, added}
use Rattle.store.specs.Put.{path_of, address_refusal, is_there, stored, held_in, put_image, put_revision, put_refusal}
use Rattle.store.specs.Get.{Which, the_latest, the_number, wanted, stands, data_of, GetAnswer, sought_refusal, get_refusal, get_in}
use Rattle.layout.proofs.Laws.Bytes.{length-splice}
use Rattle.layout.proofs.Laws.Tests.{require-zero, first_of-zero, is_false, true-not-false}
use Rattle.store.proofs.Laws.Form.{Short, short-each}
use Rattle.store.proofs.Laws.Added.{read_fits, Stored, added-latest, added-stands, added-low, stored_low, stored-stands, added-data, added-others}
use Rattle.store.proofs.Laws.Serials.{addressed, address-right, address-not-ten, answer-same}
use Rattle.store.proofs.Laws.Addresses.{path-same}
use Rattle.store.proofs.Laws.Put.{put-sound, put-others, put-serial, put-there, put-stored, put-stored-before, put-form}

-- what an accepted get has asked
pub record Asked (s directory serial : List ℕ) (which : Which) (size : ℕ) : Type 0 where
  pub sound : check s ≡ 0
  pub right : address_refusal directory serial (leb max_setting size) ≡ 0
  pub there : is_there s directory serial ≡ true
  pub form : stored s directory serial ≡ held (held_in (stored s directory serial))
  pub standing : stands (wanted (held_in (stored s directory serial)) which) (held_in (stored s directory serial)) ≡ true

sought : (f : Found) (which : Which) → sought_refusal f which ≡ 0 → (f ≡ held (held_in f)) × (stands (wanted (held_in f) which) (held_in f) ≡ true)
sought broken which q = absurd (omega arith)
sought (held rs) which q = (refl, (require-zero (stands (wanted rs which) rs) 22 0 q).0)

pub asked : (s directory serial : List ℕ) (which : Which) (size : ℕ) → get_refusal s directory serial which size ≡ 0 → Asked s directory serial which size
unfolding get_refusal
asked s directory serial which size r =
    let a = first_of-zero (check s) _ r in
    let b = first_of-zero (address_refusal directory serial (leb max_setting size)) _ a.1 in
    let c = require-zero (is_there s directory serial) 9 _ b.1 in
    let d = sought (stored s directory serial) which c.1 in
    record { sound = a.0; right = b.0; there = c.0; form = d.0; standing = d.1 }

pub got : (s directory serial : List ℕ) (which : Which) (buffer : List ℕ) → Asked s directory serial which (length buffer)
    → let rs = held_in (stored s directory serial) in
    get_in s directory serial which buffer ≡ record { number = 0; revision = wanted rs which; size = length (data_of (wanted rs which) rs); buffer = splice buffer 0 (data_of (wanted rs which) rs) }
unfolding get_in get_refusal
got s directory serial which buffer A =
    let q : sought_refusal (stored s directory serial) which ≡ 0 = ap (λ (f : Found). sought_refusal f which) A.form ∙ (rw A.standing) in
    rw (A.sound, A.right, A.there, q)

-- a get leaves the length of its buffer
data-short : (x : ℕ) (rs : List Revision) → Short rs → length (data_of x rs) ≤ 200
data-short x [] short = omega arith
data-short x (r ∷ rs) short = go (eqb r.number x) (short r (inl refl)) (data-short x rs (λ q i. short q (inr i)))
  where
    go : (t : Bool) → length r.bytes ≤ 200 → length (data_of x rs) ≤ 200 → length (cond t r.bytes (data_of x rs)) ≤ 200
    go true h g = h
    go false h g = g

stored_there : (s directory serial : List ℕ) → is_there s directory serial ≡ true → stored s directory serial ≡ revisions (content s (entry_of is_file s (path_of directory serial)))
unfolding stored
stored_there s directory serial t = rw t

get_refused : (s directory serial : List ℕ) (which : Which) (buffer : List ℕ) (k : ℕ) → get_refusal s directory serial which (length buffer) ≡ suc k → (get_in s directory serial which buffer).buffer ≡ buffer
unfolding get_in
get_refused s directory serial which buffer k q = rw q

pub get-length : (s directory serial : List ℕ) (which : Which) (buffer : List ℕ) → length (get_in s directory serial which buffer).buffer ≡ length buffer
get-length s directory serial which buffer = go (get_refusal s directory serial which (length buffer)) refl
  where
    go : (k : ℕ) → get_refusal s directory serial which (length buffer) ≡ k → length (get_in s directory serial which buffer).buffer ≡ length buffer
    go zero q =
        let A = asked s directory serial which (length buffer) q in
        let rs = held_in (stored s directory serial) in
        let F = read_fits (content s (entry_of is_file s (path_of directory serial))) rs (sym (stored_there s directory serial A.there) ∙ A.form) in
        let h = data-short (wanted rs which) rs (short-each rs F) in
        let long : max_setting ≤ length buffer = leb-true _ _ (addressed directory serial _ A.right).1 in
        ap (λ (g : GetAnswer). length g.buffer) (got s directory serial which buffer A) ∙ length-splice buffer 0 (data_of (wanted rs which) rs) (omega arith)
    go (suc k) q = ap length (get_refused s directory serial which buffer k q)

-- AFTER A PUT
module _ (s directory serial : List ℕ) (time : ℕ) (bytes : List ℕ) (ok : check s ≡ 0) (r : put_refusal s directory serial time bytes ≡ 0) where
  abbrev s' : List ℕ
  s' = put_image s directory serial time bytes

  abbrev rs : List Revision
  rs = held_in (stored s directory serial)

  S : Stored rs
  S = put-stored-before s directory serial time bytes ok r

  right : (size : ℕ) → max_setting ≤ size → address_refusal directory serial (leb max_setting size) ≡ 0
  right size h = address-right directory serial (put-serial s directory serial time bytes ok r) (leb max_setting size) (le-leb max_setting size h)

  -- the new one, by its number or as the latest
  pub new-asked : (which : Which) → wanted (added rs bytes) which ≡ suc (latest rs) → (buffer : List ℕ) → max_setting ≤ length buffer
      → get_in s' directory serial which buffer ≡ record { number = 0; revision = put_revision s directory serial; size = length bytes; buffer = splice buffer 0 bytes }
  unfolding get_in get_refusal put_revision
  new-asked which w buffer h =
      rw (
        put-sound s directory serial time bytes ok r,
        right (length buffer) h,
        put-there s directory serial time bytes ok r,
        put-stored s directory serial time bytes ok r,
        w,
        added-stands rs bytes S (suc (latest rs)) (omega (arith, S.latest-last)) (omega arith),
        added-data rs bytes S,
      )

  pub latest-asked : wanted (added rs bytes) the_latest ≡ suc (latest rs)
  latest-asked = added-latest rs bytes S

  -- one that stands then, and one that does not
  asked-then : (x size : ℕ) → max_setting ≤ size → stands x (added rs bytes) ≡ true → Asked s' directory serial (the_number x) size
  asked-then x size h t =
      let q = put-stored s directory serial time bytes ok r in
      record { sound = put-sound s directory serial time bytes ok r; right = right size h; there = put-there s directory serial time bytes ok r; form = rw q; standing = rw q t }

  pub refused-then : (x : ℕ) (buffer : List ℕ) → max_setting ≤ length buffer → stands x (added rs bytes) ≡ false
      → get_in s' directory serial (the_number x) buffer ≡ record { number = 23; revision = 0; size = 0; buffer = buffer }
  unfolding get_in get_refusal
  refused-then x buffer h f = rw (put-sound s directory serial time bytes ok r, right (length buffer) h, put-there s directory serial time bytes ok r, put-stored s directory serial time bytes ok r, f)

  pub still-given : (x : ℕ) (buffer : List ℕ) → get_refusal s directory serial (the_number x) (length buffer) ≡ 0 → put_revision s directory serial < x + 16
      → get_in s' directory serial (the_number x) buffer ≡ get_in s directory serial (the_number x) buffer
  unfolding put_revision
  still-given x buffer q h =
      let A = asked s directory serial (the_number x) (length buffer) q in
      let w = stored_low rs bytes S x A.standing in
      let long : max_setting ≤ length buffer = leb-true _ _ (addressed directory serial _ A.right).1 in
      let low : S.last + (length rs - 15) < x = omega (arith, w.0, S.latest-last) in
      let B = asked-then x (length buffer) long (added-stands rs bytes S x low (omega (arith, w.1))) in
      let same : data_of x (held_in (stored s' directory serial)) ≡ data_of x rs = ap (λ (f : Found). data_of x (held_in f)) (put-stored s directory serial time bytes ok r) ∙ added-others rs bytes S x low w.1 in
      got s' directory serial (the_number x) buffer B ∙ rw same (sym (got s directory serial (the_number x) buffer A))

  pub dropped : (x : ℕ) (buffer : List ℕ) → max_setting ≤ length buffer → x + 16 ≤ put_revision s directory serial
      → get_in s' directory serial (the_number x) buffer ≡ record { number = 23; revision = 0; size = 0; buffer = buffer }
  unfolding put_revision
  dropped x buffer h old =
      refused-then x buffer h (is_false _ (λ t. let w = added-low rs bytes S x t in let f = S.few in let l = S.latest-last in let low = w.0 in omega arith))

  pub none-comes : (x : ℕ) (buffer : List ℕ) → max_setting ≤ length buffer → get_refusal s directory serial (the_number x) (length buffer) ≢ 0 → x ≢ put_revision s directory serial
      → get_in s' directory serial (the_number x) buffer ≡ record { number = 23; revision = 0; size = 0; buffer = buffer }
  unfolding put_revision get_refusal
  none-comes x buffer h no_answer ne =
      refused-then x buffer h (is_false _ (λ t.
      let w = added-low rs bytes S x t in
      let low : S.last < x = omega (arith, w.0) in
      let high : x ≤ latest rs = omega (arith, w.1, ne) in
      go (stored-stands rs bytes S x low high) (is_there s directory serial) refl))
    where
      go : stands x rs ≡ true → (b : Bool) → is_there s directory serial ≡ b → ⊥
      go e true q = no_answer (rw (ok, right (length buffer) h, q, put-form s directory serial time bytes ok r, e))
      go e false q = let none : stored s directory serial ≡ held [] = (unfold stored in rw q) in true-not-false e (ap (λ (f : Found). stands x (held_in f)) none)

  -- of another directory or another serial number
  pub others : (folder other : List ℕ) → (folder ≡ directory → other ≢ serial) → (which : Which) (buffer : List ℕ) → get_in s' folder other which buffer ≡ get_in s folder other which buffer
  unfolding get_in get_refusal
  others folder other ne which buffer = go (address_refusal folder other (leb max_setting (length buffer))) refl
    where
      go : (k : ℕ) → address_refusal folder other (leb max_setting (length buffer)) ≡ k → get_in s' folder other which buffer ≡ get_in s folder other which buffer
      go zero z =
          answer-same s s' folder other (put-sound s directory serial time bytes ok r ∙ sym ok)
          (put-others s directory serial time bytes ok r (path_of folder other) (λ q.
          let w = path-same folder other directory serial (addressed folder other _ z).0 (put-serial s directory serial time bytes ok r) q in
          ne w.0 w.1)) which buffer
      go (suc k) z = rw (put-sound s directory serial time bytes ok r, ok, z)

-- the number that a put answers, by what a get of the latest answers before it
pub first-number : (s directory serial : List ℕ) → check s ≡ 0 → (size : ℕ) → get_refusal s directory serial the_latest size ≡ 10 → put_revision s directory serial ≡ 1
unfolding get_refusal put_revision latest
first-number s directory serial ok size q = go (address_refusal directory serial (leb max_setting size)) refl (is_there s directory serial) refl (stored s directory serial) refl
  where
    go : (a : ℕ) → address_refusal directory serial (leb max_setting size) ≡ a → (b : Bool) → is_there s directory serial ≡ b → (f : Found) → stored s directory serial ≡ f → put_revision s directory serial ≡ 1
    go (suc a) ea b eb f ef = let z : ◌≡◌ {A = ℕ} (suc a) 10 = rw (ok, ea) at q in absurd (address-not-ten directory serial (leb max_setting size) (ea ∙ z))
    go zero ea false eb f ef = let none : stored s directory serial ≡ held [] = (unfold stored in rw eb) in rw none
    go zero ea true eb broken ef = let z : ◌≡◌ {A = ℕ} 24 10 = rw (ok, ea, eb, ef) at q in absurd (omega arith)
    go zero ea true eb (held rs) ef = by-standing (stands (latest rs) rs) refl
      where
        by-standing : (t : Bool) → stands (latest rs) rs ≡ t → put_revision s directory serial ≡ 1
        by-standing true e = let z : ◌≡◌ {A = ℕ} 0 10 = rw (ok, ea, eb, ef, e) at q in absurd (omega arith)
        by-standing false e = let z : ◌≡◌ {A = ℕ} 23 10 = rw (ok, ea, eb, ef, e) at q in absurd (omega arith)

pub next-number : (s directory serial buffer : List ℕ) → get_refusal s directory serial the_latest (length buffer) ≡ 0 → put_revision s directory serial ≡ suc (get_in s directory serial the_latest buffer).revision
unfolding put_revision
next-number s directory serial buffer q = ap suc (sym (ap (λ (g : GetAnswer). g.revision) (got s directory serial the_latest buffer (asked s directory serial the_latest (length buffer) q))))
