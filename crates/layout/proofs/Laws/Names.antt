-- Byte strings compared, padding, and good names.
use Prim.Native.Nat.{ℕ, zero, suc, ◌≤◌, ◌<◌, ◌+◌, ◌-◌}
use mathlib.Core.Bool.{true, not, ◌&&◌, and_assoc, false≢true}
use mathlib.Core.List.{List, [], ◌∷◌, ◌++◌}
use mathlib.Core.Logic.{◌⊎◌, inl, inr, ⊎_elim, ◌≢◌}
use mathlib.Core.Path.{◌≡◌, refl, sym, ap}
use native.Mathlib.Nat.{le_of_suc-le-suc, not-suc-le-zero}
use native.Mathlib.Omega.{arith}
use lib.Dec.{eqb}
use lib.ListN.{length, get_or, take, drop, length-append}
use borrow.Author.Tests.{eqb-false, eqb-true, not-true}
use Rattle.layout.specs.Limits.{max_name}
use Rattle.layout.specs.Lists.{within, every, same}
use Rattle.layout.specs.Directory.{name_byte, good_name, unpadded, name_of, name_ok, padded}
use Rattle.layout.specs.Bytes.{part, zeros}
use Rattle.layout.proofs.Laws.Lists.{get_d-in, every_in}
use Rattle.layout.proofs.Laws.Tests.{and_split, and-join, within-split, eqb-self, true-or-false, true-not-false}
use Rattle.layout.proofs.Laws.Bytes.{length-zeros}

pub same-eq : (x y : List ℕ) → same x y ≡ true → x ≡ y
same-eq [] [] e = refl
same-eq [] (y ∷ ys) e = absurd (false≢true e)
same-eq (x ∷ xs) [] e = absurd (false≢true e)
same-eq (x ∷ xs) (y ∷ ys) e =
    let w = and_split (eqb x y) (same xs ys) e in
    let p = eqb-true x y w.0 in
    let q = same-eq xs ys w.1 in
    rw (p, q)

pub same_refl : (x : List ℕ) → same x x ≡ true
same_refl [] = refl
same_refl (x ∷ xs) = and-join (eqb-self x) (same_refl xs)

pub same_or_not : (x y : List ℕ) → (x ≡ y) ⊎ (x ≢ y)
same_or_not x y = ⊎_elim (λ t. inl (same-eq x y t)) (λ f. inr (λ q. true-not-false {a = same x y} (rw q (same_refl y)) f)) (true-or-false (same x y))

-- against two strings one after the other
pub same-append : (s a b : List ℕ) → length a ≤ length s → same s (a ++ b) ≡ same (take (length a) s) a && same (drop (length a) s) b
same-append s [] b h = refl
same-append [] (x ∷ xs) b h = absurd (not-suc-le-zero h)
same-append (y ∷ s) (x ∷ xs) b h =
    rw (same-append s xs b (le_of_suc-le-suc h)) (sym (and_assoc (eqb y x) (same (take (length xs) s) xs) (same (drop (length xs) s) b)))

-- the bytes before the first zero
pub take-unpadded : (f : List ℕ) → take (length (unpadded f)) f ≡ unpadded f
take-unpadded [] = refl
take-unpadded (zero ∷ xs) = refl
take-unpadded (suc x ∷ xs) = ap (λ (l : List ℕ). suc x ∷ l) (take-unpadded xs)

pub unpadded-most : (f : List ℕ) → length (unpadded f) ≤ length f
unpadded-most [] = omega arith
unpadded-most (zero ∷ xs) = omega arith
unpadded-most (suc x ∷ xs) = let r = unpadded-most xs in omega arith

-- a good name has 1 to 80 bytes, none of them 0 or `/`
pub good_name-split : (name : List ℕ) → good_name name ≡ true → (1 ≤ length name) × (length name ≤ max_name) × (every name_byte name ≡ true)
unfolding good_name
good_name-split name e =
    let a = and_split (within 1 max_name (length name)) (every name_byte name) e in
    let b = within-split 1 max_name (length name) a.0 in
    (b.0, b.1, a.1)

pub good_name-length : (name : List ℕ) → good_name name ≡ true → length name ≤ max_name
good_name-length name e = (good_name-split name e).1

pub good_name-byte : (name : List ℕ) (i : ℕ) → good_name name ≡ true → i < length name → get_or name i 0 ≢ 0
good_name-byte name i e h =
    eqb-false _ _ (not-true _ (and_split (not (eqb (get_or name i 0) 0)) _ (every_in name_byte name (get_or name i 0) (good_name-split name e).2 (get_d-in name i 0 h))).0)

-- a name and its padding
unpadded-zeros : (k : ℕ) → unpadded (zeros k) ≡ []
unfolding zeros
unpadded-zeros zero = refl
unpadded-zeros (suc k) = refl

unpadded-name : (name : List ℕ) (k : ℕ) → every name_byte name ≡ true → unpadded (name ++ zeros k) ≡ name
unpadded-name [] k e = unpadded-zeros k
unpadded-name (zero ∷ xs) k e = absurd (true-not-false e refl)
unpadded-name (suc x ∷ xs) k e = ap (λ (r : List ℕ). suc x ∷ r) (unpadded-name xs k (and_split (name_byte (suc x)) (every name_byte xs) e).1)

module _ (name : List ℕ) (good : good_name name ≡ true) where
  pub padded-length : length (padded name) ≡ 80
  padded-length = let h = good_name-length name good in simp (length-append, length-zeros) (omega arith)

  pub padded-name : unpadded (padded name) ≡ name
  padded-name = unpadded-name name (80 - length name) (good_name-split name good).2

  -- an entry whose name field holds a good name
  module _ (s : List ℕ) (e : ℕ) (field : part s (e + 48) 80 ≡ padded name) where
    pub name-is : name_of s e ≡ name
    unfolding name_of
    name-is = rw field padded-name

    pub name-ok : name_ok s e ≡ true
    unfolding name_ok
    name-ok = rw (name-is, field) (and-join good (same_refl (padded name)))
