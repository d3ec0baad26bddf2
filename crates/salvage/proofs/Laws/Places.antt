-- Where the root's slots are: ds is the list of its blocks.
use Prim.Native.Nat.{ℕ, zero, suc, ◌+◌, ◌*◌, ◌/◌, ◌%◌, ◌≤◌, ◌<◌}
use mathlib.Core.Bool.{true}
use mathlib.Core.List.{List, [], ◌∷◌}
use mathlib.Core.Logic.{◌⊎◌, inl, inr, ⊎_elim, ◌≢◌}
use mathlib.Core.Path.{◌≡◌, refl, sym, ap, subst}
use native.Mathlib.Decide.{ℕ_discrete}
use native.Mathlib.Omega.{arith}
use lib.Dec.{eqb}
use lib.ListN.{length, get_or}
use Rattle.layout.specs.Limits.{min_blocks, max_blocks}
use Rattle.layout.specs.Lists.{distinct}
use Rattle.layout.specs.Geometry.{table_blocks, root_block}
use Rattle.layout.specs.Directory.{slot_at}
use Rattle.layout.proofs.Laws.Tests.{lt-or-gt}
use Rattle.layout.proofs.Laws.Lists.{In, get_d-in, head_apart, tail-distinct}

pub record Place (n : ℕ) (ds : List ℕ) : Type 0 where
  pub least : min_blocks ≤ n
  pub most : n ≤ max_blocks
  pub blocks : (x : ℕ) → In x ds → (table_blocks n < x) × (x < n)
  pub apart : distinct eqb ds ≡ true
  pub some : 1 ≤ length ds

-- different numbers by index
pub index-apart : (xs : List ℕ) → distinct eqb xs ≡ true → (i j : ℕ) → i < length xs → j < length xs → i ≢ j → get_or xs i 0 ≢ get_or xs j 0
index-apart [] d i j hi hj ne e = absurd (omega arith)
index-apart (x ∷ xs) d zero zero hi hj ne e = ne refl
index-apart (x ∷ xs) d zero (suc j) hi hj ne e = head_apart x xs d (subst (λ (z : ℕ). In z xs) (sym e) (get_d-in xs j 0 (omega arith)))
index-apart (x ∷ xs) d (suc i) zero hi hj ne e = head_apart x xs d (subst (λ (z : ℕ). In z xs) e (get_d-in xs i 0 (omega arith)))
index-apart (x ∷ xs) d (suc i) (suc j) hi hj ne e = index-apart xs (tail-distinct x xs d) i j (omega arith) (omega arith) (λ q. ne (omega arith)) e

module _ (n : ℕ) (ds : List ℕ) (G : Place n ds) where
  slot_is : (k : ℕ) → slot_at ds k ≡ 512 * get_or ds (k / 4) 0 + 128 * (k % 4)
  unfolding slot_at
  slot_is k = refl

  module _ (k : ℕ) (h : k < 4 * length ds) where
    slot-in : In (slot_at ds k / 512) ds
    slot-in =
        let e : slot_at ds k / 512 ≡ get_or ds (k / 4) 0 = omega (arith, slot_is k) in
        rw e (get_d-in ds (k / 4) 0 (omega arith))

    pub slot-low : 512 * root_block n ≤ slot_at ds k
    slot-low = let w = G.blocks (slot_at ds k / 512) slot-in in omega arith

    pub slot-high : slot_at ds k + 128 ≤ 512 * n
    slot-high =
        let w = G.blocks (slot_at ds k / 512) slot-in in
        let e : slot_at ds k + 128 ≤ 512 * (slot_at ds k / 512) + 512 = omega (arith, slot_is k) in
        omega arith

    -- beside a block that is not the root's
    pub slot-beside : (b : ℕ) → (In b ds → ⊥) → (slot_at ds k + 128 ≤ 512 * b) ⊎ (512 * b + 512 ≤ slot_at ds k)
    slot-beside b out =
        let e : slot_at ds k + 128 ≤ 512 * (slot_at ds k / 512) + 512 = omega (arith, slot_is k) in
        let ne : slot_at ds k / 512 ≢ b = λ q. out (subst (λ (z : ℕ). In z ds) q slot-in) in
        ⊎_elim (λ l. inl (omega arith)) (λ l. inr (omega arith)) (lt-or-gt (slot_at ds k / 512) b ne)

  pub slots_apart : (j k : ℕ) → j < 4 * length ds → k < 4 * length ds → j ≢ k → (slot_at ds j + 128 ≤ slot_at ds k) ⊎ (slot_at ds k + 128 ≤ slot_at ds j)
  slots_apart j k hj hk ne = go (ℕ_discrete (j / 4) (k / 4))
    where
      go : Dec (j / 4 ≡ k / 4) → (slot_at ds j + 128 ≤ slot_at ds k) ⊎ (slot_at ds k + 128 ≤ slot_at ds j)
      go (yes e) =
          let q : get_or ds (j / 4) 0 ≡ get_or ds (k / 4) 0 = ap (λ (i : ℕ). get_or ds i 0) e in
          ⊎_elim (λ l. inl (omega (arith, slot_is j, slot_is k))) (λ l. inr (omega (arith, slot_is j, slot_is k))) (lt-or-gt j k ne)
      go (no p) =
          let q = index-apart ds G.apart (j / 4) (k / 4) (omega arith) (omega arith) p in
          ⊎_elim (λ l. inl (omega (arith, slot_is j, slot_is k))) (λ l. inr (omega (arith, slot_is j, slot_is k))) (lt-or-gt (get_or ds (j / 4) 0) (get_or ds (k / 4) 0) q)
