-- The loops over a directory's slots: the way from slot to slot.
use Prim.Native.Nat.{ℕ, suc, ◌+◌, ◌-◌, ◌*◌, ◌/◌, ◌%◌, ◌≤◌, ◌<◌}
use mathlib.Core.Bool.{Bool, true, false, cond}
use mathlib.Core.List.{List, [], ◌∷◌}
use mathlib.Core.Path.{◌≡◌, refl, ◌∙◌}
use native.Mathlib.Omega.{arith}
use lib.Dec.{eqb}
use lib.ListN.{get_or}
use borrow.Author.Tests.{eqb-false, eqb-true}
use Rattle.layout.specs.Lists.{interval}
use Rattle.layout.specs.Table.{next, chain}
use Rattle.layout.specs.Directory.{slot_at, blocks_of, directory}
use Rattle.layout.proofs.Laws.Chains.{chain_first, chain_next}
use Rattle.layout.proofs.Laws.Lists.{interval-next}
use Rattle.plain_check.specs.Walks.{word, after}

-- e is where slot k of the directory at d stands, if it has so many
pub record Place (s : List ℕ) (d e k : ℕ) : Type 0 where
  pub here : k < 4 * blocks_of s (512 * d) → e ≡ slot_at (directory s d) k
  pub low : e < 512 * word
  pub even : e % 128 ≡ 0

module _ (s : List ℕ) (d : ℕ) where
  pub place-first : d < word → Place s d (512 * d) 0
  unfolding directory slot_at
  place-first f =
      record {
        here = λ h. let x = chain_first (next s) d (blocks_of s (512 * d)) (omega arith) in omega (arith, x);
        low = omega arith;
        even = omega arith;
      }

  pub place-next : (e k j r : ℕ) → Place s d e k → j ≡ k + 1 → r ≡ after (next s) e → r < 512 * word → r % 128 ≡ 0 → Place s d r j
  unfolding after directory slot_at
  place-next e k j r p q er low even = record { here = λ h. er ∙ go (eqb (e % 512) 384) refl h; low = low; even = even }
    where
      go : (t : Bool) → eqb (e % 512) 384 ≡ t → j < 4 * blocks_of s (512 * d)
          → cond t (512 * next s (e / 512)) (e + 128) ≡ 512 * get_or (chain (next s) d (blocks_of s (512 * d))) (j / 4) 0 + 128 * (j % 4)
      go true t h =
          let at : e ≡ 512 * get_or (chain (next s) d (blocks_of s (512 * d))) (k / 4) 0 + 128 * (k % 4) = p.here (omega arith) in
          let z : e % 512 ≡ 384 = eqb-true _ _ t in
          let f : e / 512 ≡ get_or (chain (next s) d (blocks_of s (512 * d))) (k / 4) 0 = omega (arith, at) in
          let w : k % 4 ≡ 3 = omega (arith, at, f, z) in
          let a : j / 4 ≡ suc (k / 4) = omega arith in
          let b : j % 4 ≡ 0 = omega arith in
          let n = chain_next (next s) d (blocks_of s (512 * d)) (k / 4) (omega arith) in
          rw (a, b, n, f) (omega arith)
      go false t h =
          let at : e ≡ 512 * get_or (chain (next s) d (blocks_of s (512 * d))) (k / 4) 0 + 128 * (k % 4) = p.here (omega arith) in
          let z : e % 512 ≡ 384 → ⊥ = eqb-false _ _ t in
          let f : e / 512 ≡ get_or (chain (next s) d (blocks_of s (512 * d))) (k / 4) 0 = omega (arith, at) in
          let w : k % 4 ≤ 2 = omega (arith, at, f, z) in
          let a : j / 4 ≡ k / 4 = omega arith in
          let b : j % 4 ≡ k % 4 + 1 = omega arith in
          rw (a, b) (omega arith)

-- entry k of those before `end`, counted from 1: slot k − 1
module _ (k end : ℕ) where
  pub slots-none : end ≤ k → interval (k - 1) (end - k) ≡ []
  slots-none h = let z : end - k ≡ 0 = omega arith in rw z

  pub slots_next : 2 ≤ k → k < end → interval (k - 1) (end - k) ≡ (k - 1) ∷ interval (k + 1 - 1) (end - (k + 1))
  slots_next l h =
      let a : k - 1 + 1 ≡ k + 1 - 1 = omega arith in
      let b : end - k - 1 ≡ end - (k + 1) = omega arith in
      interval-next (k - 1) (end - k) (omega arith) ∙ rw (a, b)

pub slots-first : (size end : ℕ) → end ≡ 4 * size → interval 1 (4 * size - 2) ≡ interval (2 - 1) (end - 2)
slots-first size end e = rw e
