-- The definition of a number in decimal, by its clauses.
use Prim.Native.Nat.{ℕ, zero, suc, ◌+◌, ◌-◌, ◌/◌, ◌%◌, ◌≤◌, ◌<◌}
use mathlib.Core.Path.{◌≡◌, ap, ◌∙◌}
use mathlib.Core.Bool.{Bool, true, false, cond}
use mathlib.Core.List.{[], ◌∷◌, ◌++◌}
use native.Mathlib.Omega.{arith}
use lib.Dec.{ltb}
use lib.ListN.{length, length-append}
use borrow.Author.Tests.{lt-ltb, le-ltb}
use Rattle.layout.specs.Listing.{digits, decimal}

module _ (k x : ℕ) where
  pub digits-none : k ≡ 0 → digits k x ≡ []
  digits-none e = rw e

  digits-suc : 0 < k → digits k x ≡ (let more = digits (k - 1) (x / 10) ++ ((48 + x % 10) ∷ []) in cond (ltb x 10) ((48 + x) ∷ []) more)
  digits-suc h = let e : k ≡ suc (k - 1) = omega arith in ap (λ (j : ℕ). digits j x) e

  pub digits-one : (d : ℕ) → d ≡ 48 + x → 0 < k → x < 10 → digits k x ≡ d ∷ []
  digits-one d e h l = digits-suc h ∙ rw (lt-ltb x 10 l, e)

  pub digits_more : (d : ℕ) → d ≡ 48 + x % 10 → 0 < k → 10 ≤ x → digits k x ≡ digits (k - 1) (x / 10) ++ (d ∷ [])
  digits_more d e h l = digits-suc h ∙ rw (le-ltb x 10 l, e)

digits-short : (k x : ℕ) → length (digits k x) ≤ k
digits-short zero x = omega arith
digits-short (suc k) x = go (ltb x 10) (digits-short k (x / 10))
  where
    go : (t : Bool) → length (digits k (x / 10)) ≤ k → length (cond t ((48 + x) ∷ []) (digits k (x / 10) ++ ((48 + x % 10) ∷ []))) ≤ suc k
    go true h = omega arith
    go false h = simp length-append (omega arith)

pub decimal-short : (x : ℕ) → length (decimal x) ≤ 10
unfolding decimal
decimal-short x = digits-short 10 x
