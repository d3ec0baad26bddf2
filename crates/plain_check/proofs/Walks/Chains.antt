-- One chain, block by block.
use Prim.Native.Nat.{ℕ, zero, suc, ◌+◌, ◌-◌, ◌≤◌, ◌<◌}
use mathlib.Core.Bool.{Bool, ◌&&◌, ◌||◌}
use mathlib.Core.Path.{◌≡◌, refl, sym, ap, ◌∙◌}
use native.Mathlib.Omega.{arith}
use lib.Dec.{eqb, ltb}
use lib.ListN.{get_or}
use borrow.Author.Tests.{eq-eqb, ne_eqb}
use Rattle.layout.specs.Geometry.{table_blocks, in_volume}
use Rattle.layout.specs.Table.{chain, chain_ok, ends_after}
use Rattle.layout.proofs.Laws.Chains.{nth, nth-suc, get_d-chain}
use Rattle.plain_check.specs.Plain.{one, holds}
use Rattle.plain_check.proofs.Walks.Tests.{regroup-more}

-- block number i of k, at `at`
module _ (v : ℕ → ℕ) (b at k i : ℕ) where
  pub holds-end : k ≤ i → one (holds v b at (k - i)) ≡ 0
  unfolding holds
  holds-end h = let z : k - i ≡ 0 = omega arith in rw z

  module _ (h : i < k) where
    pub holds-stop : b ≡ at → one (holds v b at (k - i)) ≡ 1
    unfolding holds
    holds-stop e = let z : k - i ≡ suc (k - (i + 1)) = omega arith in rw (z, eq-eqb b at e)

    pub holds-next : (b ≡ at → ⊥) → (at₂ : ℕ) → at₂ ≡ v at → holds v b at (k - i) ≡ holds v b at₂ (k - (i + 1))
    unfolding holds
    holds-next e at₂ p = let z : k - i ≡ suc (k - (i + 1)) = omega arith in rw (z, ne_eqb b at e, p)

module _ (v : ℕ → ℕ) (n first at k i : ℕ) (good : Bool) where
  pub ends_next : i < k → ends_after v n first k ≡ (good && ends_after v n at (k - i)) → (at₂ : ℕ) → at₂ ≡ v at
      → ends_after v n first k ≡ (((good && ltb (table_blocks n) at) && ltb at n) && ends_after v n at₂ (k - (i + 1)))
  unfolding ends_after in_volume
  ends_next h e at₂ p =
      let z : k - i ≡ suc (k - (i + 1)) = omega arith in
      e ∙ rw (z, p) (regroup-more good (ltb (table_blocks n) at) (ltb at n) (ends_after v n (v at) (k - (i + 1))))

  pub ends-all : k ≤ i → ends_after v n first k ≡ (good && ends_after v n at (k - i)) → (eqb k 0 || (good && eqb at 1)) ≡ chain_ok v n first k
  unfolding ends_after chain_ok
  ends-all h e = let z : k - i ≡ 0 = omega arith in go k (rw z at e)
    where
      go : (k : ℕ) → ends_after v n first k ≡ (good && eqb at 1) → (eqb k 0 || (good && eqb at 1)) ≡ chain_ok v n first k
      go zero q = refl
      go (suc k) q = rw (ne_eqb (suc k) 0 (λ w. omega arith)) (sym q)

-- the last block of a chain, step by step
module _ (v : ℕ → ℕ) (first d at i : ℕ) where
  pub last_end : 1 ≤ d → d ≤ i → i ≤ d → at ≡ nth v (i - 1) first → at ≡ get_or (chain v first d) (d - 1) 0
  last_end h l m e =
      let q : i - 1 ≡ d - 1 = omega arith in
      e ∙ ap (λ (x : ℕ). nth v x first) q ∙ sym (get_d-chain v first d (d - 1) (omega arith))

  pub last-next : 1 ≤ i → at ≡ nth v (i - 1) first → (at₂ : ℕ) → at₂ ≡ v at → at₂ ≡ nth v (i + 1 - 1) first
  last-next h e at₂ q =
      let z : i + 1 - 1 ≡ suc (i - 1) = omega arith in
      q ∙ ap v e ∙ sym (nth-suc v (i - 1) first) ∙ ap (λ (x : ℕ). nth v x first) (sym z)
