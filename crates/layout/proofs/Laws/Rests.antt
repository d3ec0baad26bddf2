-- What passes a test, without the first that do: the free blocks that are left when the first of them are taken.
use Prim.Native.Nat.{ℕ, zero, suc, ◌+◌, ◌≤◌, ◌<◌}
use mathlib.Core.Path.{◌≡◌, refl, sym, ap, ◌∙◌}
use mathlib.Core.Bool.{Bool, true, false}
use mathlib.Core.List.{List, ◌∷◌}
use mathlib.Core.Logic.{inl, inr, ⊎_elim}
use native.Mathlib.Omega.{arith}
use lib.ListN.{take, drop}
use lib.Seq.{drop-nil}
use Rattle.layout.specs.Lists.{interval, select}
use Rattle.layout.proofs.Laws.Lists.{In, in_take, select_in}

-- a test that fails for the first j that pass another, and agrees with it on all else, selects the rest
pub select-rest : (p r : ℕ → Bool) (k a j : ℕ) → ((i : ℕ) → a ≤ i → i < a + k → In i (take j (select p (interval a k))) → r i ≡ false)
    → ((i : ℕ) → a ≤ i → i < a + k → (In i (take j (select p (interval a k))) → ⊥) → r i ≡ p i) → select r (interval a k) ≡ drop j (select p (interval a k))
select-rest p r zero a j f g = sym (drop-nil {A = ℕ} j)
select-rest p r (suc k) a j f g = go (p a) refl j f g (select-rest p r k (suc a))
  where
    out : (j : ℕ) → In a (take j (select p (interval (suc a) k))) → ⊥
    out j i = omega (arith, (select_in p (suc a) k a (in_take a j (select p (interval (suc a) k)) i)).0)

    go : (c : Bool) → p a ≡ c → (j : ℕ) → ((i : ℕ) → a ≤ i → i < a + suc k → In i (take j (select p (interval a (suc k)))) → r i ≡ false)
        → ((i : ℕ) → a ≤ i → i < a + suc k → (In i (take j (select p (interval a (suc k)))) → ⊥) → r i ≡ p i)
        → ((j : ℕ) → ((i : ℕ) → suc a ≤ i → i < suc a + k → In i (take j (select p (interval (suc a) k))) → r i ≡ false)
        → ((i : ℕ) → suc a ≤ i → i < suc a + k → (In i (take j (select p (interval (suc a) k))) → ⊥) → r i ≡ p i) → select r (interval (suc a) k) ≡ drop j (select p (interval (suc a) k)))
        → select r (interval a (suc k)) ≡ drop j (select p (interval a (suc k)))
    go false e j f g ih =
        let f' : (i : ℕ) → a ≤ i → i < a + suc k → In i (take j (select p (interval (suc a) k))) → r i ≡ false = rw e at f in
        let g' : (i : ℕ) → a ≤ i → i < a + suc k → (In i (take j (select p (interval (suc a) k))) → ⊥) → r i ≡ p i = rw e at g in
        let e' : r a ≡ false = g' a (omega arith) (omega arith) (out j) ∙ e in
        rw (e, e') (ih j (λ i h l m. f' i (omega arith) (omega arith) m) (λ i h l m. g' i (omega arith) (omega arith) m))
    go true e zero f g ih =
        let e' : r a ≡ true = g a (omega arith) (omega arith) (λ i. i) ∙ e in
        rw (e, e') (ap (λ (l : List ℕ). a ∷ l) (ih zero (λ i h l m. absurd m) (λ i h l m. g i (omega arith) (omega arith) (λ z. z))))
    go true e (suc j) f g ih =
        let f' : (i : ℕ) → a ≤ i → i < a + suc k → In i (a ∷ take j (select p (interval (suc a) k))) → r i ≡ false = rw e at f in
        let g' : (i : ℕ) → a ≤ i → i < a + suc k → (In i (a ∷ take j (select p (interval (suc a) k))) → ⊥) → r i ≡ p i = rw e at g in
        let e' : r a ≡ false = f' a (omega arith) (omega arith) (inl refl) in
        rw (e, e') (ih j (λ i h l m. f' i (omega arith) (omega arith) (inr m)) (λ i h l m. g' i (omega arith) (omega arith) (λ w. ⊎_elim (λ q. omega arith) m w)))
