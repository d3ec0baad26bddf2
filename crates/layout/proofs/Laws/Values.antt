-- Two tables of values that agree below n: a question that reads entries below n only has the same answer, for any n.
use Prim.Native.Nat.{ℕ, zero, suc, ◌+◌, ◌≤◌, ◌<◌}
use mathlib.Core.Bool.{Bool, true, false, not, ◌&&◌, ◌||◌}
use mathlib.Core.List.{List}
use mathlib.Core.Path.{◌≡◌, refl, ap, ◌∙◌, subst}
use native.Mathlib.Omega.{arith}
use lib.Dec.{eqb, ltb}
use lib.ListN.{get_or}
use borrow.Author.Tests.{ltb-true}
use Rattle.layout.specs.Lists.{interval, every}
use Rattle.layout.specs.Geometry.{table_blocks, in_volume}
use Rattle.layout.specs.Table.{chain, ends_after, occupied, all_ones, rest_free}
use Rattle.layout.proofs.Laws.Tests.{and_split}
use Rattle.layout.proofs.Laws.Chains.{nth, get_d-chain, chain-agree}
use Rattle.layout.proofs.Laws.Counts.{occupied-same}

-- two tests that agree on an interval
every-agree : (p q : ℕ → Bool) (k a : ℕ) → ((x : ℕ) → a ≤ x → x < a + k → p x ≡ q x) → every p (interval a k) ≡ every q (interval a k)
every-agree p q zero a f = refl
every-agree p q (suc k) a f =
    let e : p a ≡ q a = f a (omega arith) (omega arith) in
    let r : every p (interval (suc a) k) ≡ every q (interval (suc a) k) = every-agree p q k (suc a) (λ x h g. f x (omega arith) (omega arith)) in
    rw (e, r)

module _ (v w : ℕ → ℕ) (n : ℕ) (same : (b : ℕ) → b < n → v b ≡ w b) where
  -- a chain whose blocks are below n
  pub chain_same : (b k : ℕ) → ((i : ℕ) → i < k → get_or (chain w b k) i 0 < n) → chain v b k ≡ chain w b k
  chain_same b k h = chain-agree w v b k (λ y g. same (nth w y b) (subst (λ (x : ℕ). x < n) (get_d-chain w b k y g) (h y g)))

  pub ends_same : (k b : ℕ) → ends_after v n b k ≡ ends_after w n b k
  unfolding ends_after in_volume
  ends_same zero b = refl
  ends_same (suc k) b = go (in_volume n b) refl (ends_same k (v b))
    where
      go : (t : Bool) → in_volume n b ≡ t → ends_after v n (v b) k ≡ ends_after w n (v b) k → (t && ends_after v n (v b) k) ≡ (t && ends_after w n (w b) k)
      go true e more =
          let h : b < n = ltb-true b n (and_split (ltb (table_blocks n) b) (ltb b n) e).1 in
          more ∙ ap (λ (c : ℕ). ends_after w n c k) (same b h)
      go false e more = refl

  pub occupied-agree : occupied v n ≡ occupied w n
  occupied-agree = occupied-same w v n (λ b h. ap (λ (x : ℕ). eqb x 0) (same b h))

  pub ones-same : (a k : ℕ) → a + k ≤ n → all_ones v a k ≡ all_ones w a k
  unfolding all_ones
  ones-same a k h = every-agree (λ b. eqb (v b) 1) (λ b. eqb (w b) 1) k a (λ x l g. ap (λ (y : ℕ). eqb y 1) (same x (omega arith)))

  pub rest_free-same : (m : List ℕ) (a k : ℕ) → a + k ≤ n → rest_free v m a k ≡ rest_free w m a k
  unfolding rest_free
  rest_free-same m a k h =
      every-agree (λ b. eqb (v b) 0 || not (eqb (get_or m b 0) 0)) (λ b. eqb (w b) 0 || not (eqb (get_or m b 0) 0)) k a
      (λ x l g. ap (λ (y : ℕ). eqb y 0 || not (eqb (get_or m x 0) 0)) (same x (omega arith)))
