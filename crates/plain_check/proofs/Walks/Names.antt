-- The field of a name, byte by byte.
use Prim.Native.Nat.{ℕ, zero, suc, ◌+◌, ◌-◌, ◌≤◌, ◌<◌}
use mathlib.Core.Bool.{Bool, true, false, not, ◌&&◌, ◌||◌, cond}
use mathlib.Core.List.{List, [], ◌∷◌, ◌++◌}
use mathlib.Core.Logic.{⊎_elim}
use mathlib.Core.Path.{◌≡◌, refl, sym, ap, ◌∙◌}
use native.Mathlib.Omega.{arith}
use lib.Dec.{eqb}
use lib.ListN.{length, get_or, take, drop_of_length-le, get_or-eq_default}
use lib.Seq.{drop-cons}
use borrow.Author.Tests.{eq-eqb, ne_eqb, le-leb}
use Rattle.layout.specs.Lists.{interval, every, same}
use Rattle.layout.specs.Limits.{max_name}
use Rattle.layout.specs.Bytes.{part, zeros}
use Rattle.layout.specs.Directory.{slash, name_byte, good_name, unpadded, padded, name_of, name_ok}
use Rattle.layout.proofs.Laws.Bytes.{length_part}
use Rattle.layout.proofs.Laws.Names.{unpadded-most, same-eq, same_refl}
use Rattle.layout.proofs.Laws.Tests.{lt-or-ge, eqb-self, and_split}
use Rattle.plain_check.specs.Walks.{same_field}
use Rattle.plain_check.proofs.Laws.Chains.{both_ways}
use Rattle.plain_check.proofs.Walks.Tests.{regroup}

-- the k bytes from an offset on are 0
abbrev zeros_from : List ℕ → ℕ → ℕ → Bool
zeros_from s at k = every (λ i. eqb (get_or s i 0) 0) (interval at k)

-- the rest of a name's field from an offset on: name bytes, and after the first 0 only zeros
unfoldable name_from : List ℕ → ℕ → ℕ → Bool
name_from s at zero = true
name_from s at (suc k) =
    let more = name_from s (suc at) k in
    cond (eqb (get_or s at 0) 0) (zeros_from s at (suc k)) (not (eqb (get_or s at 0) slash) && more)

-- after the byte at i comes another of the name, or a 0 that ends it; after a 0 only a 0
abbrev pub follows : List ℕ → ℕ → Bool
follows s i = (not (eqb (get_or s i 0) 0) || eqb (get_or s (i + 1) 0) 0) && not (eqb (get_or s (i + 1) 0) slash)

-- a part by its first byte; past the end there is none
part-cons : (s : List ℕ) (at k : ℕ) → at < length s → part s at (suc k) ≡ get_or s at 0 ∷ part s (suc at) k
part-cons s at k h = ap (take (suc k)) (drop-cons s at 0 h)

part-past : (s : List ℕ) (at k : ℕ) → length s ≤ at → part s at k ≡ []
part-past s at zero h = refl
part-past s at (suc k) h = ap (take (suc k)) (drop_of_length-le s h)

unpadded-zero : (x : ℕ) (xs : List ℕ) → x ≡ 0 → unpadded (x ∷ xs) ≡ []
unpadded-zero x xs e = rw e

unpadded-more : (x : ℕ) (xs : List ℕ) → (x ≡ 0 → ⊥) → unpadded (x ∷ xs) ≡ x ∷ unpadded xs
unpadded-more zero xs h = absurd (h refl)
unpadded-more (suc x) xs h = refl

-- the bytes before the first zero
module _ (s : List ℕ) (at : ℕ) where
  pub name-end : (k : ℕ) → get_or s at 0 ≡ 0 → unpadded (part s at k) ≡ []
  name-end zero e = refl
  name-end (suc k) e =
      ⊎_elim
      (λ h. ap unpadded (part-cons s at k h) ∙ unpadded-zero (get_or s at 0) (part s (suc at) k) e)
      (λ h. ap unpadded (part-past s at (suc k) h))
      (lt-or-ge at (length s))

  pub name-next : (k : ℕ) → 0 < k → (get_or s at 0 ≡ 0 → ⊥) → unpadded (part s at k) ≡ get_or s at 0 ∷ unpadded (part s (at + 1) (k - 1))
  name-next zero l h = absurd (omega arith)
  name-next (suc k) l h =
      let q : suc k - 1 ≡ k = omega arith in
      let p : at + 1 ≡ suc at = omega arith in
      ⊎_elim
      (λ g. rw (q, p) (ap unpadded (part-cons s at k g) ∙ unpadded-more (get_or s at 0) (part s (suc at) k) h))
      (λ g. absurd (h (get_or-eq_default s 0 g)))
      (lt-or-ge at (length s))

-- the rest of a name's field
name_from-more : (s : List ℕ) (at k : ℕ) → 0 < k
    → name_from s at k ≡ cond (eqb (get_or s at 0) 0) (zeros_from s at k) (not (eqb (get_or s at 0) slash) && name_from s (at + 1) (k - 1))
unfolding name_from
name_from-more s at zero h = absurd (omega arith)
name_from-more s at (suc k) h =
    let q : suc k - 1 ≡ k = omega arith in
    let p : at + 1 ≡ suc at = omega arith in
    rw (q, p)

-- the bytes after the one at `at`
module _ (s : List ℕ) where
  after-zero : (k at : ℕ) → get_or s at 0 ≡ 0 → every (follows s) (interval at k) ≡ zeros_from s (suc at) k
  after-zero zero at z = refl
  after-zero (suc k) at z = let p : at + 1 ≡ suc at = omega arith in rw (p, z) (go (get_or s (suc at) 0) refl (after-zero k (suc at)))
    where
      go : (x : ℕ) → get_or s (suc at) 0 ≡ x → (get_or s (suc at) 0 ≡ 0 → every (follows s) (interval (suc at) k) ≡ zeros_from s (suc (suc at)) k)
          → ((eqb (get_or s (suc at) 0) 0 && not (eqb (get_or s (suc at) 0) slash)) && every (follows s) (interval (suc at) k)) ≡ (eqb (get_or s (suc at) 0) 0 && zeros_from s (suc (suc at)) k)
      go zero e ih = rw (e, ih e)
      go (suc x) e ih = rw (e, ne_eqb (suc x) 0 (λ w. omega arith))

  after-used : (k at : ℕ) → (get_or s at 0 ≡ 0 → ⊥) → every (follows s) (interval at k) ≡ name_from s (suc at) k
  unfolding name_from
  after-used zero at z = refl
  after-used (suc k) at z = let p : at + 1 ≡ suc at = omega arith in rw (p, ne_eqb (get_or s at 0) 0 z) (go (get_or s (suc at) 0) refl (after-used k (suc at)))
    where
      go : (x : ℕ) → get_or s (suc at) 0 ≡ x → ((get_or s (suc at) 0 ≡ 0 → ⊥) → every (follows s) (interval (suc at) k) ≡ name_from s (suc (suc at)) k)
          → (not (eqb (get_or s (suc at) 0) slash) && every (follows s) (interval (suc at) k))
          ≡ cond (eqb (get_or s (suc at) 0) 0) (eqb (get_or s (suc at) 0) 0 && zeros_from s (suc (suc at)) k) (not (eqb (get_or s (suc at) 0) slash) && name_from s (suc (suc at)) k)
      go zero e ih = rw (e, after-zero k (suc at) e)
      go (suc x) e ih =
          let z : get_or s (suc at) 0 ≡ 0 → ⊥ = λ w. let c : suc x ≡ 0 = sym e ∙ w in omega arith in
          rw (ne_eqb (get_or s (suc at) 0) 0 z, ih z)

  name-used : (k at : ℕ) → (get_or s at 0 ≡ 0 → ⊥) → name_from s at (suc k) ≡ (not (eqb (get_or s at 0) slash) && every (follows s) (interval at k))
  unfolding name_from
  name-used k at z = rw (ne_eqb (get_or s at 0) 0 z) (ap (λ (t : Bool). not (eqb (get_or s at 0) slash) && t) (sym (after-used k at z)))

  name-first : (k at x y : ℕ) (ok : Bool) → x ≡ get_or s at 0 → y ≡ get_or s at 0 → (get_or s at 0 ≡ 0 → ok ≡ false) → ((get_or s at 0 ≡ 0 → ⊥) → ok ≡ name_from s at (suc k))
      → ok ≡ ((not (eqb x 0) && not (eqb y slash)) && every (follows s) (interval at k))
  name-first k at x y ok ex ey f g = go (get_or s at 0) refl
    where
      go : (w : ℕ) → get_or s at 0 ≡ w → ok ≡ ((not (eqb x 0) && not (eqb y slash)) && every (follows s) (interval at k))
      go zero q = f q ∙ rw (eq-eqb x 0 (ex ∙ q))
      go (suc w) q =
          let z : get_or s at 0 ≡ 0 → ⊥ = λ v. let c : suc w ≡ 0 = sym q ∙ v in omega arith in
          g z ∙ name-used k at z ∙ rw (ne_eqb x 0 (λ v. z (sym ex ∙ v)), ey)

-- the whole field
module _ (s : List ℕ) where
  zeros-same : (k at : ℕ) → at + k ≤ length s → same (part s at k) (zeros k) ≡ zeros_from s at k
  unfolding zeros
  zeros-same zero at h = refl
  zeros-same (suc k) at h = rw (part-cons s at k (omega arith)) (ap (λ (t : Bool). eqb (get_or s at 0) 0 && t) (zeros-same k (suc at) (omega arith)))

  abbrev good : List ℕ → ℕ → Bool
  good xs k = every name_byte (unpadded xs) && same xs (unpadded xs ++ zeros (k - length (unpadded xs)))

  field-from : (k at : ℕ) → at + k ≤ length s → good (part s at k) k ≡ name_from s at k
  unfolding name_from zeros
  field-from zero at h = refl
  field-from (suc k) at h = rw (part-cons s at k (omega arith)) (go (get_or s at 0) refl (field-from k (suc at) (omega arith)))
    where
      go : (x : ℕ) → get_or s at 0 ≡ x → good (part s (suc at) k) k ≡ name_from s (suc at) k
          → good (x ∷ part s (suc at) k) (suc k) ≡ cond (eqb x 0) (zeros_from s at (suc k)) (not (eqb x slash) && name_from s (suc at) k)
      go zero e ih =
          let q : part s at (suc k) ≡ 0 ∷ part s (suc at) k = part-cons s at k (omega arith) ∙ ap (λ (x : ℕ). x ∷ part s (suc at) k) e in
          let z : suc k - 0 ≡ suc k = omega arith in
          rw z (ap (λ (l : List ℕ). same l (zeros (suc k))) (sym q) ∙ zeros-same (suc k) at h)
      go (suc x) e ih =
          let u = unpadded (part s (suc at) k) in
          let z : suc k - suc (length u) ≡ k - length u = omega arith in
          rw (eqb-self (suc x), ne_eqb (suc x) 0 (λ w. omega arith), z, ← ih)
          (regroup (not (eqb (suc x) slash)) (every name_byte (unpadded (part s (suc at) k))) (same (part s (suc at) k) (unpadded (part s (suc at) k) ++ zeros (k - length (unpadded (part s (suc at) k))))))

  module _ (e : ℕ) where
    name_ok-empty : get_or s (e + 48) 0 ≡ 0 → name_ok s e ≡ false
    unfolding name_ok name_of good_name
    name_ok-empty z = rw (name-end s (e + 48) 80 z)

    name_ok-from : e + 128 ≤ length s → (get_or s (e + 48) 0 ≡ 0 → ⊥) → name_ok s e ≡ name_from s (e + 48) 80
    unfolding name_ok name_of good_name
    name_ok-from h z =
        let f = part s (e + 48) 80 in
        let l : length f ≡ 80 = length_part s (e + 48) 80 (omega arith) in
        let m : length (unpadded f) ≤ 80 = omega (arith, unpadded-most f) in
        let p : 1 ≤ length (unpadded f) = rw (name-next s (e + 48) 80 (omega arith) z) (omega arith) in
        rw (le-leb 1 (length (unpadded f)) p, le-leb (length (unpadded f)) max_name m) (field-from 80 (e + 48) (omega arith))

    -- the first byte, read as x and y, and all that follow
    pub name-all : e + 128 ≤ length s → (x y : ℕ) → x ≡ get_or s (e + 48) 0 → y ≡ get_or s (e + 48) 0 → (end : ℕ) → end ≡ e + 127
        → name_ok s e ≡ ((not (eqb x 0) && not (eqb y slash)) && every (follows s) (interval (e + 48) (end - (e + 48))))
    name-all h x y ex ey end ee =
        let w : 80 ≡ suc (end - (e + 48)) = omega arith in
        name-first s (end - (e + 48)) (e + 48) x y (name_ok s e) ex ey name_ok-empty (λ z. name_ok-from h z ∙ ap (name_from s (e + 48)) w)

-- one more byte
pub follows_is : (s : List ℕ) (i x y z : ℕ) → x ≡ get_or s i 0 → y ≡ get_or s (i + 1) 0 → z ≡ get_or s (i + 1) 0 → ((not (eqb x 0) || eqb y 0) && not (eqb z slash)) ≡ follows s i
follows_is s i x y z ex ey ez = rw (ex, ey, ez)

-- two fields byte by byte
field-same : (s : List ℕ) (a b k i : ℕ) → a + i + k ≤ length s → b + i + k ≤ length s
    → every (λ i. eqb (get_or s (a + i) 0) (get_or s (b + i) 0)) (interval i k) ≡ same (part s (a + i) k) (part s (b + i) k)
field-same s a b zero i h g = refl
field-same s a b (suc k) i h g =
    let p : suc (a + i) ≡ a + suc i = omega arith in
    let q : suc (b + i) ≡ b + suc i = omega arith in
    rw (part-cons s (a + i) k (omega arith), part-cons s (b + i) k (omega arith), p, q)
    (ap (λ (t : Bool). eqb (get_or s (a + i) 0) (get_or s (b + i) 0) && t) (field-same s a b k (suc i) (omega arith) (omega arith)))

module _ (s : List ℕ) (a b : ℕ) (ha : a + 128 ≤ length s) (hb : b + 128 ≤ length s) where
  pub field-part : same_field s a b ≡ same (part s (a + 48) 80) (part s (b + 48) 80)
  unfolding same_field
  field-part = field-same s a b 80 48 (omega (arith, ha)) (omega (arith, hb))

  -- of good names the fields are the same exactly if the names are
  pub field-name : name_ok s a ≡ true → name_ok s b ≡ true → same_field s a b ≡ same (name_of s a) (name_of s b)
  unfolding name_ok name_of
  field-name oa ob =
      let fa : part s (a + 48) 80 ≡ padded (name_of s a) = same-eq (part s (a + 48) 80) (padded (name_of s a)) (and_split (good_name (name_of s a)) _ oa).1 in
      let fb : part s (b + 48) 80 ≡ padded (name_of s b) = same-eq (part s (b + 48) 80) (padded (name_of s b)) (and_split (good_name (name_of s b)) _ ob).1 in
      field-part ∙
      both_ways _ _
      (λ t.
      let e : name_of s a ≡ name_of s b = ap unpadded (same-eq (part s (a + 48) 80) (part s (b + 48) 80) t) in
      rw e (same_refl (name_of s b)))
      (λ t.
      let e : name_of s a ≡ name_of s b = same-eq (name_of s a) (name_of s b) t in
      let p : part s (a + 48) 80 ≡ part s (b + 48) 80 = fa ∙ ap padded e ∙ sym fb in
      rw p (same_refl (part s (b + 48) 80)))

-- a byte of two fields
module _ (s : List ℕ) (a b x y : ℕ) (ex : x ≡ get_or s a 0) (ey : y ≡ get_or s b 0) where
  pub byte-other : (x ≡ y → ⊥) → false ≡ eqb (get_or s a 0) (get_or s b 0)
  byte-other h = rw (← ex, ← ey, ne_eqb x y h)

  pub byte-same : x ≡ y → true ≡ eqb (get_or s a 0) (get_or s b 0)
  byte-same h = rw (← ex, ← ey, eq-eqb x y h)
