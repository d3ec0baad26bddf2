-- The marked blocks: one more looked at, a group of them, and those marked from a list are the list in ascending order.
use Prim.Native.Nat.{ℕ, zero, suc, ◌+◌, ◌-◌, ◌≤◌, ◌<◌}
use mathlib.Core.Path.{◌≡◌, refl, ap, ◌∙◌}
use mathlib.Core.Bool.{Bool, true, false, not, cond}
use mathlib.Core.List.{List, [], ◌∷◌, ◌++◌}
use native.Mathlib.Omega.{arith}
use borrow.Author.Tests.{eq-eqb, ne_eqb}
use lib.Dec.{ltb, eqb}
use lib.ListN.{length, get_or, length-append}
use Rattle.layout.specs.Lists.{every, has, keep, select, interval}
use Rattle.layout.specs.Bytes.{zeros}
use Rattle.layout.specs.Walks.Chains.{bit}
use Rattle.journal.specs.Journal.{ascending}
use Rattle.journal.specs.Walks.Saves.{marked_from}
use Rattle.volume.specs.Walks.Marks.{marked}
use Rattle.layout.proofs.Laws.Lists.{select-below, interval-from, select-same, select-split}
use Rattle.layout.proofs.Laws.Bytes.{length-zeros, get_d-zeros}
use Rattle.volume.proofs.Walks.Marks.{marked-at}

-- the numbers of a range that pass a test: those of its first j, and of the rest
select-parts : (p : ℕ → Bool) (j a k t : ℕ) → t ≡ j + k → select p (interval a t) ≡ select p (interval a j) ++ select p (interval (a + j) k)
select-parts p zero a k t e =
    let d : t ≡ k = omega arith in
    let f : a + 0 ≡ a = omega arith in
    rw (d, f)
select-parts p (suc j) a k t e =
    let d : t ≡ suc (j + k) = omega arith in
    let f : a + suc j ≡ suc a + j = omega arith in
    rw (d, f, select-parts p j (suc a) k (j + k) refl) (kept (p a) (select p (interval (suc a) j)) (select p (interval (suc a + j) k)))
  where
    kept : (t : Bool) (x y : List ℕ) → keep t a (x ++ y) ≡ keep t a x ++ y
    kept true x y = refl
    kept false x y = refl

module _ (m : List ℕ) (b n : ℕ) (h : b < n) where
  pub marked-skip : get_or m b 0 ≡ 0 → marked_from m b (n - b) ≡ marked_from m (b + 1) (n - (b + 1))
  unfolding marked_from
  marked-skip e = rw (interval-from n b h, eq-eqb _ _ e)

  pub marked-take : (get_or m b 0 ≡ 0 → ⊥) → marked_from m b (n - b) ≡ b ∷ marked_from m (b + 1) (n - (b + 1))
  unfolding marked_from
  marked-take e = rw (interval-from n b h, ne_eqb _ _ e)

-- the count of the marked ones, one more looked at
pub marked_next : (m : List ℕ) (b n : ℕ) → b < n → length (marked_from m b (n - b)) ≡ bit (not (eqb (get_or m b 0) 0)) + length (marked_from m (b + 1) (n - (b + 1)))
unfolding marked_from
marked_next m b n h = rw (interval-from n b h) (counted (not (eqb (get_or m b 0) 0)) _)
  where
    counted : (t : Bool) (r : List ℕ) → length (keep t b r) ≡ bit t + length r
    counted true r = omega arith
    counted false r = omega arith

-- those up to e, and those from e on
pub marked-split : (m : List ℕ) (b e n : ℕ) → b ≤ e → e ≤ n → marked_from m b (n - b) ≡ marked_from m b (e - b) ++ marked_from m e (n - e)
unfolding marked_from
marked-split m b e n h g =
    let d : b + (e - b) ≡ e = omega arith in
    rw d at (select-parts (λ x. not (eqb (get_or m x 0) 0)) (e - b) b (n - e) (n - b) (omega arith))

pub marked-parts : (m : List ℕ) (b e n : ℕ) → b ≤ e → e ≤ n → length (marked_from m b (n - b)) ≡ length (marked_from m b (e - b)) + length (marked_from m e (n - e))
marked-parts m b e n h g = ap length (marked-split m b e n h g) ∙ length-append (marked_from m b (e - b)) (marked_from m e (n - e))

pub marked-done : (m : List ℕ) (b n : ℕ) → n ≤ b → marked_from m b (n - b) ≡ []
unfolding marked_from
marked-done m b n h = let e : n - b ≡ 0 = omega arith in rw e

pub marked-below : (m : List ℕ) (b n : ℕ) → b ≤ n → every (λ x. ltb x n) (marked_from m b (n - b)) ≡ true
unfolding marked_from
marked-below m b n h = select-below (λ x. not (eqb (get_or m x 0) 0)) n (n - b) b (omega arith)

pub marked-few : (m : List ℕ) (n : ℕ) → length (marked_from m 0 n) ≤ n
unfolding marked_from
marked-few m n = omega (arith, select-split (λ x. eqb (get_or m x 0) 0) n 0)

pub marked-ascending : (n k : ℕ) (bs : List ℕ) → n ≤ k → marked_from (marked (zeros k) bs) 0 n ≡ ascending n bs
unfolding marked_from ascending
marked-ascending n k bs h =
    select-same (λ b. has eqb b bs) (λ b. not (eqb (get_or (marked (zeros k) bs) b 0) 0)) n 0
    (λ x a g. rw (marked-at bs (zeros k) x (rw length-zeros (omega arith)), get_d-zeros k x) (as-test (has eqb x bs)))
  where
    as-test : (t : Bool) → not (eqb (cond t 1 0) 0) ≡ t
    as-test true = refl
    as-test false = refl
