-- What was read fits; a revision added fits, is the latest, and leaves the others, but for the oldest of 16.
use Prim.Native.Nat.{ℕ, zero, suc, ◌+◌, ◌-◌, ◌≤◌, ◌<◌}
use mathlib.Core.Path.{◌≡◌, refl, sym, ap, ◌∙◌, subst}
use mathlib.Core.Bool.{Bool, true, false, ◌&&◌, cond}
use mathlib.Core.List.{List, [], ◌∷◌, ◌++◌}
use mathlib.Core.Logic.{◌⊎◌, inl, inr, ⊎_elim, ◌≢◌}
use native.Mathlib.Omega.{arith}
use native.Mathlib.Decide.{ℕ_discrete}
use borrow.Author.Tests.{eqb-true, eq-eqb, ne_eqb, leb-true, le-leb}
use lib.ListN.{length, get_or, drop, length-append, length-drop}
use lib.Dec.{eqb, leb}
use Rattle.layout.specs.Lists.{within, every}
use Rattle.layout.specs.Bytes.{be32, part}
use Rattle.store.specs.Settings.{max_setting, max_revisions, max_number, Revision, Found, broken, held, before, records_in, follow, numbers_ok, numbered, revisions, latest_after, latest, added}
use Rattle.store.specs.Get.{stands, data_of}
use Rattle.store.specs.Claims.{Fits, Small}
use Rattle.store.proofs.Laws.Form.{Short, short-each, fits-of, small_of}
use Rattle.layout.proofs.Laws.Bytes.{length-take-most}
use Rattle.layout.proofs.Laws.Tests.{and_split, and-join, true-not-false}
use Rattle.layout.proofs.Laws.Lists.{In, in-append}

-- READ
is_held : Found → Bool
is_held broken = false
is_held (held rs) = true

those : Found → List Revision
those broken = []
those (held rs) = rs

pub not-broken : (rs : List Revision) → broken ≡ held rs → ⊥
unfolding is_held
not-broken rs q = true-not-false {a = true} refl (sym (ap is_held q))

pub held_same : (rs qs : List Revision) → held rs ≡ held qs → rs ≡ qs
unfolding those
held_same rs qs q = ap those q

pub held-cond : (t : Bool) (x : Found) (rs : List Revision) → cond t x broken ≡ held rs → (t ≡ true) × (x ≡ held rs)
held-cond true x rs q = (refl, q)
held-cond false x rs q = absurd (not-broken rs q)

pub held_none : (t : Bool) (x : Found) (rs : List Revision) → cond t (held []) x ≡ held rs → ((rs ≡ []) × (t ≡ true)) ⊎ (x ≡ held rs)
held_none true x rs q = inl (sym (held_same [] rs q), refl)
held_none false x rs q = inr q

pub held-before : (r : Revision) (x : Found) (rs : List Revision) → before r x ≡ held rs → (more : List Revision) × (x ≡ held more) × (rs ≡ r ∷ more)
held-before r broken rs q = absurd (not-broken rs q)
held-before r (held more) rs q = (more, refl, sym (held_same (r ∷ more) rs q))

pub held-numbered : (x : Found) (rs : List Revision) → numbered x ≡ held rs → (x ≡ held rs) × (numbers_ok rs ≡ true)
held-numbered broken rs q = absurd (not-broken rs q)
held-numbered (held qs) rs q =
    let w = held-cond (numbers_ok qs) (held qs) rs q in
    (w.1, subst (λ (y : List Revision). numbers_ok y ≡ true) (held_same qs rs w.1) w.0)

pub read_some : (fuel : ℕ) (xs : List ℕ) (rs : List Revision) → records_in fuel xs ≡ held rs → (length rs ≤ fuel) × Short rs
unfolding records_in
read_some zero xs rs q = ⊎_elim (λ z. rw z.0 (omega arith, λ r i. absurd i)) (λ z. absurd (not-broken rs z)) (held_none (eqb (length xs) 0) broken rs q)
read_some (suc fuel) xs rs q = ⊎_elim (λ z. rw z.0 (omega arith, λ r i. absurd i)) (λ z.
    let w = held-cond (leb (get_or xs 0 0) max_setting && leb (5 + get_or xs 0 0) (length xs)) _ rs z in
    let s = leb-true (get_or xs 0 0) max_setting (and_split (leb (get_or xs 0 0) max_setting) _ w.0).0 in
    let b = held-before (record { number = be32 xs 1; bytes = part xs 5 (get_or xs 0 0) }) (records_in fuel (drop (5 + get_or xs 0 0) xs)) rs w.1 in
    let ih = read_some fuel (drop (5 + get_or xs 0 0) xs) b.0 b.1 in
    let l = length-take-most (get_or xs 0 0) (drop 5 xs) in
    rw b.2 (let h = ih.0 in omega arith, λ r i. ⊎_elim (λ e. rw e (omega arith)) (λ j. ih.1 r j) i)) (held_none (eqb (length xs) 0) _ rs q)

pub read_fits : (c : List ℕ) (rs : List Revision) → revisions c ≡ held rs → Fits rs
unfolding revisions
read_fits c rs q =
    let a = held-cond (eqb (get_or c 0 0) 1 && (within 5 (length c) (be32 c 1) && every (λ x. eqb x 0) (drop (be32 c 1) c))) _ rs q in
    let b = held-numbered (records_in max_revisions (part c 5 (be32 c 1 - 5))) rs a.1 in
    let d = read_some max_revisions (part c 5 (be32 c 1 - 5)) rs b.0 in
    fits-of rs d.0 d.1 b.1

-- NUMBERS that follow one another from the one after `last` on
module _ (x : ℕ) where
  pub stands-low : (rs : List Revision) (last : ℕ) → follow last rs ≡ true → stands x rs ≡ true → (last < x) × (x ≤ last + length rs)
  stands-low [] last f t = absurd (true-not-false t refl)
  stands-low (r ∷ rs) last f t = go (ℕ_discrete r.number x) (stands-low rs r.number)
    where
      go : Dec (r.number ≡ x) → (follow r.number rs ≡ true → stands x rs ≡ true → (r.number < x) × (x ≤ r.number + length rs)) → (last < x) × (x ≤ last + suc (length rs))
      go (yes q) ih = let n = eqb-true r.number (suc last) (and_split (eqb r.number (suc last)) _ f).0 in (omega arith, omega arith)
      go (no ne) ih =
          let a = and_split (eqb r.number (suc last)) _ f in
          let n = eqb-true r.number (suc last) a.0 in
          let h = ih a.1 (rw (ne_eqb r.number x ne) at t) in
          (omega (arith, h.0), omega (arith, h.1))

  pub stands-between : (rs : List Revision) (last : ℕ) → follow last rs ≡ true → last < x → x ≤ last + length rs → stands x rs ≡ true
  stands-between [] last f low high = absurd (omega arith)
  stands-between (r ∷ rs) last f low high = go (ℕ_discrete r.number x) (stands-between rs r.number)
    where
      go : Dec (r.number ≡ x) → (follow r.number rs ≡ true → r.number < x → x ≤ r.number + length rs → stands x rs ≡ true) → stands x (r ∷ rs) ≡ true
      go (yes q) ih = rw (eq-eqb r.number x q)
      go (no ne) ih =
          let a = and_split (eqb r.number (suc last)) _ f in
          let n = eqb-true r.number (suc last) a.0 in
          let l : r.number < x = omega (arith, ne) in
          rw (ne_eqb r.number x ne) (ih a.1 l (omega arith))

  -- the data of one that is not dropped
  data-kept : (k : ℕ) (rs : List Revision) (last : ℕ) → follow last rs ≡ true → last + k < x → data_of x (drop k rs) ≡ data_of x rs
  data-kept zero rs last f h = refl
  data-kept (suc k) [] last f h = refl
  data-kept (suc k) (r ∷ rs) last f h =
      let a = and_split (eqb r.number (suc last)) _ f in
      let n = eqb-true r.number (suc last) a.0 in
      data-kept k rs r.number a.1 (omega arith) ∙ rw (ne_eqb r.number x (λ q. omega arith))

  -- with one more at the end: the data of those before it, and its own
  data-before : (rs : List Revision) (r : Revision) → r.number ≢ x → data_of x (rs ++ (r ∷ [])) ≡ data_of x rs
  data-before [] r ne = rw (ne_eqb r.number x ne)
  data-before (q ∷ rs) r ne = ap (λ (t : List ℕ). cond (eqb q.number x) q.bytes t) (data-before rs r ne)

  data-last : (rs : List Revision) (last : ℕ) (r : Revision) → follow last rs ≡ true → last + length rs < x → r.number ≡ x → data_of x (rs ++ (r ∷ [])) ≡ r.bytes
  data-last [] last r f h q = rw (eq-eqb r.number x q)
  data-last (y ∷ rs) last r f h q =
      let a = and_split (eqb y.number (suc last)) _ f in
      let n = eqb-true y.number (suc last) a.0 in
      rw (ne_eqb y.number x (λ z. omega arith)) (data-last rs y.number r a.1 (omega arith) q)

latest-is : (rs : List Revision) (last : ℕ) → follow last rs ≡ true → latest_after last rs ≡ last + length rs
latest-is [] last f = omega arith
latest-is (r ∷ rs) last f =
    let a = and_split (eqb r.number (suc last)) _ f in
    let n = eqb-true r.number (suc last) a.0 in
    let h = latest-is rs r.number a.1 in
    omega arith

all-low : (rs : List Revision) (last : ℕ) → follow last rs ≡ true → (r : Revision) → In r rs → r.number ≤ last + length rs
all-low [] last f r x'' = elim x'' [ ]
all-low (q ∷ rs) last f r (inl e) = let n = eqb-true q.number (suc last) (and_split (eqb q.number (suc last)) _ f).0 in rw e (omega arith)
all-low (q ∷ rs) last f r (inr i) =
    let a = and_split (eqb q.number (suc last)) _ f in
    let n = eqb-true q.number (suc last) a.0 in
    let h = all-low rs q.number a.1 r i in
    omega arith

drop-follow : (k : ℕ) (rs : List Revision) (last : ℕ) → follow last rs ≡ true → k ≤ length rs → follow (last + k) (drop k rs) ≡ true
drop-follow zero rs last f h = let z : last + 0 ≡ last = omega arith in rw z f
drop-follow (suc k) [] last f h = absurd (omega arith)
drop-follow (suc k) (r ∷ rs) last f h =
    let a = and_split (eqb r.number (suc last)) _ f in
    let n = eqb-true r.number (suc last) a.0 in
    let z : last + suc k ≡ r.number + k = omega arith in
    rw z (drop-follow k rs r.number a.1 (omega arith))

snoc-follow : (rs : List Revision) (last : ℕ) (r : Revision) → follow last rs ≡ true → r.number ≡ suc (last + length rs) → follow last (rs ++ (r ∷ [])) ≡ true
snoc-follow [] last r f q = and-join (eq-eqb r.number (suc last) (omega arith)) refl
snoc-follow (x ∷ rs) last r f q =
    let a = and_split (eqb x.number (suc last)) _ f in
    let n = eqb-true x.number (suc last) a.0 in
    and-join a.0 (snoc-follow rs x.number r a.1 (omega arith))

pub latest-snoc : (rs : List Revision) (last : ℕ) (r : Revision) → latest_after last (rs ++ (r ∷ [])) ≡ r.number
latest-snoc [] last r = refl
latest-snoc (x ∷ rs) last r = latest-snoc rs x.number r

numbers-of : (rs : List Revision) (last : ℕ) → follow last rs ≡ true → 1 ≤ length rs → numbers_ok rs ≡ true
numbers-of [] last f h = absurd (omega arith)
numbers-of (r ∷ rs) last f h =
    let a = and_split (eqb r.number (suc last)) _ f in
    let n = eqb-true r.number (suc last) a.0 in
    and-join (le-leb 1 r.number (omega arith)) a.1

in_rest : (k : ℕ) (rs : List Revision) (r : Revision) → In r (drop k rs) → In r rs
in_rest zero rs r i = i
in_rest (suc k) [] r i = i
in_rest (suc k) (q ∷ rs) r i = inr (in_rest k rs r i)

-- the revisions that stand, where there is a file or none: `last` is the number before the oldest
pub record Stored (rs : List Revision) : Type 0 where
  pub last : ℕ
  pub follows : follow last rs ≡ true
  pub few : length rs ≤ 16
  pub short : Short rs
  pub latest-last : latest rs ≡ last + length rs

pub stored-none : Stored []
unfolding latest
stored-none = record { last = 0; follows = refl; few = omega arith; short = λ r i. absurd i; latest-last = refl }

pub stored-fits : (rs : List Revision) → Fits rs → Stored rs
unfolding latest
stored-fits [] F = absurd (true-not-false F.numbers refl)
stored-fits (r ∷ rs) F =
    let a = and_split (leb 1 r.number) _ F.numbers in
    let h = leb-true 1 r.number a.0 in
    let z : suc (r.number - 1) ≡ r.number = omega arith in
    let f : follow (r.number - 1) (r ∷ rs) ≡ true = and-join (eq-eqb r.number (suc (r.number - 1)) (sym z)) a.1 in
    record { last = r.number - 1; follows = f; few = F.few; short = short-each (r ∷ rs) F; latest-last = latest-is (r ∷ rs) (r.number - 1) f }

-- A REVISION ADDED
module _ (rs : List Revision) (bytes : List ℕ) (S : Stored rs) where
  abbrev new : Revision
  new = record { number = suc (latest rs); bytes = bytes }

  abbrev left : List Revision
  left = drop (length rs - 15) rs

  added_is : added rs bytes ≡ left ++ (new ∷ [])
  unfolding added
  added_is = refl

  left-follows : follow (S.last + (length rs - 15)) left ≡ true
  left-follows = drop-follow (length rs - 15) rs S.last S.follows (omega arith)

  left-length : (length rs - 15) + length left ≡ length rs
  left-length = let l = length-drop (length rs - 15) rs in omega arith

  -- the number before the oldest then
  pub added-follows : follow (S.last + (length rs - 15)) (added rs bytes) ≡ true
  added-follows = rw added_is (snoc-follow left (S.last + (length rs - 15)) new left-follows (omega (arith, left-length, S.latest-last)))

  pub added-length : (length rs - 15) + length (added rs bytes) ≡ suc (length rs)
  added-length = rw added_is (let l = length-append left (new ∷ []) in omega (arith, left-length))

  pub added-latest : latest (added rs bytes) ≡ suc (latest rs)
  unfolding latest
  added-latest = ap (latest_after 0) added_is ∙ latest-snoc left 0 new

  pub added-fits : length bytes ≤ 200 → Fits (added rs bytes)
  added-fits short =
      fits-of (added rs bytes) (omega (arith, added-length, S.few))
      (rw added_is (λ r i. ⊎_elim (λ j. S.short r (in_rest (length rs - 15) rs r j)) (λ j. ⊎_elim (λ e. rw e short) (λ x. absurd x) j) (in-append r left (new ∷ []) i)))
      (numbers-of (added rs bytes) (S.last + (length rs - 15)) added-follows (omega (arith, added-length)))

  pub added-small : latest rs < max_number → Small (added rs bytes)
  added-small room =
      small_of (added rs bytes) (λ r i. let h = all-low (added rs bytes) (S.last + (length rs - 15)) added-follows r i in omega (arith, added-length, S.latest-last))

  -- those that stand then: the new one, and of the others the last 15
  pub added-stands : (x : ℕ) → S.last + (length rs - 15) < x → x ≤ suc (latest rs) → stands x (added rs bytes) ≡ true
  added-stands x low high = stands-between x (added rs bytes) (S.last + (length rs - 15)) added-follows low (omega (arith, added-length, S.latest-last))

  pub added-low : (x : ℕ) → stands x (added rs bytes) ≡ true → (S.last + (length rs - 15) < x) × (x ≤ suc (latest rs))
  added-low x t = let w = stands-low x (added rs bytes) (S.last + (length rs - 15)) added-follows t in (w.0, omega (arith, w.1, added-length, S.latest-last))

  pub stored_low : (x : ℕ) → stands x rs ≡ true → (S.last < x) × (x ≤ latest rs)
  stored_low x t = let w = stands-low x rs S.last S.follows t in (w.0, omega (arith, w.1, S.latest-last))

  pub stored-stands : (x : ℕ) → S.last < x → x ≤ latest rs → stands x rs ≡ true
  stored-stands x low high = stands-between x rs S.last S.follows low (omega (arith, S.latest-last))

  pub added-data : data_of (suc (latest rs)) (added rs bytes) ≡ bytes
  added-data = rw added_is (data-last (suc (latest rs)) left (S.last + (length rs - 15)) new left-follows (omega (arith, left-length, S.latest-last)) refl)

  pub added-others : (x : ℕ) → S.last + (length rs - 15) < x → x ≤ latest rs → data_of x (added rs bytes) ≡ data_of x rs
  added-others x low high = rw added_is (data-before x left new (λ q. omega arith) ∙ data-kept x (length rs - 15) rs S.last S.follows low)
