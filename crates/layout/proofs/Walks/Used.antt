-- The count of the entries in use: it tells whether just the marked of them are, and serves stage 7.
use Prim.Native.Nat.{ℕ, zero, suc, ◌+◌, ◌-◌, ◌*◌, ◌≤◌, ◌<◌}
use mathlib.Core.Bool.{Bool, true, false, not, ◌&&◌, ◌||◌}
use mathlib.Core.List.{List}
use mathlib.Core.Logic.{⊎_elim}
use mathlib.Core.Path.{◌≡◌, refl, sym, ap, ◌∙◌}
use native.Mathlib.Omega.{arith}
use lib.Dec.{eqb}
use borrow.Author.Tests.{eq-eqb, ne_eqb, eqb-true, eqb-false}
use Rattle.layout.specs.Limits.{min_blocks}
use Rattle.layout.specs.Lists.{interval, every, has, distinct}
use Rattle.layout.specs.Geometry.{block_count, table_blocks}
use Rattle.layout.specs.Table.{next, chain, chain_ok, occupied, all_ones}
use Rattle.layout.specs.Check.{owned, table_ok, stage6, all_chains}
use Rattle.layout.specs.Walks.Chains.{count_used, bit}
use Rattle.layout.specs.Walks.Shapes.{Shape}
use Rattle.layout.proofs.Laws.Chains.{chain_ok-split, in-chain, chain-used}
use Rattle.layout.proofs.Laws.Counts.{occupied-most}
use Rattle.layout.proofs.Laws.Joins.{of-join, interval-in}
use Rattle.layout.proofs.Laws.Lists.{In, every_in, has-eqb-in}
use Rattle.layout.proofs.Laws.Tests.{and_split, or_split}
use Rattle.layout.proofs.Walks.Chains.{count_used-end, count_used-next, count_used-split}
use Rattle.layout.proofs.Walks.Shapes.{shape-block_count}

count-suc : (v : ℕ → ℕ) (a k : ℕ) → count_used v a (suc k) ≡ bit (not (eqb (v a) 0)) + count_used v (suc a) k
count-suc v a k =
    let e : a + 1 ≡ suc a = omega arith in
    let d : suc k - 1 ≡ k = omega arith in
    rw (e, d) at (count_used-next v a (suc k) (omega arith))

count-skip : (v : ℕ → ℕ) (a k : ℕ) → v a ≡ 0 → count_used v a (suc k) ≡ count_used v (suc a) k
count-skip v a k e =
    let b : bit (not (eqb (v a) 0)) ≡ 0 = ap (λ (t : Bool). bit (not t)) (eq-eqb (v a) 0 e) in
    omega (arith, count-suc v a k, b)

count_add : (v : ℕ → ℕ) (a k : ℕ) → (v a ≡ 0 → ⊥) → count_used v a (suc k) ≡ suc (count_used v (suc a) k)
count_add v a k h =
    let b : bit (not (eqb (v a) 0)) ≡ 1 = ap (λ (t : Bool). bit (not t)) (ne_eqb (v a) 0 h) in
    omega (arith, count-suc v a k, b)

-- all, and none, of a range are in use
count-all : (v : ℕ → ℕ) (k a : ℕ) → every (λ b. eqb (v b) 1) (interval a k) ≡ true → count_used v a k ≡ k
count-all v zero a e = count_used-end v a 0 refl
count-all v (suc k) a e =
    let w = and_split (eqb (v a) 1) (every (λ b. eqb (v b) 1) (interval (suc a) k)) e in
    let o : v a ≡ 1 = eqb-true (v a) 1 w.0 in
    omega (arith, count_add v a k (λ z. omega arith), count-all v k (suc a) w.1)

count_none : (v : ℕ → ℕ) (k a : ℕ) → ((b : ℕ) → a ≤ b → b < a + k → v b ≡ 0) → count_used v a k ≡ 0
count_none v zero a f = count_used-end v a 0 refl
count_none v (suc k) a f = count-skip v a k (f a (omega arith) (omega arith)) ∙ count_none v k (suc a) (λ b h l. f b (omega arith) (omega arith))

eqb-shift : (p q x y low : ℕ) → x ≡ low + p → y ≡ low + q → eqb p q ≡ eqb x y
eqb-shift p q x y low ex ey = go (eqb p q) refl
  where
    go : (t : Bool) → eqb p q ≡ t → t ≡ eqb x y
    go true e = let z : p ≡ q = eqb-true p q e in sym (eq-eqb x y (omega arith))
    go false e = let z : p ≡ q → ⊥ = eqb-false p q e in sym (ne_eqb x y (λ w. z (omega arith)))

-- what is marked is in use: then just that is, exactly if the counts are equal
module _ (v m : ℕ → ℕ) (f : (b : ℕ) → (m b ≡ 0 → ⊥) → v b ≡ 0 → ⊥) where
  covered : (k a : ℕ) → (count_used m a k ≤ count_used v a k) × (every (λ b. eqb (v b) 0 || not (eqb (m b) 0)) (interval a k) ≡ eqb (count_used v a k) (count_used m a k))
  covered zero a = (omega (arith, count_used-end m a 0 refl), rw (count_used-end v a 0 refl, count_used-end m a 0 refl))
  covered (suc k) a = go (eqb (v a) 0) refl (eqb (m a) 0) refl (covered k (suc a))
    where
      all : Bool
      all = every (λ b. eqb (v b) 0 || not (eqb (m b) 0)) (interval (suc a) k)

      go : (t : Bool) → eqb (v a) 0 ≡ t → (u : Bool) → eqb (m a) 0 ≡ u
          → (count_used m (suc a) k ≤ count_used v (suc a) k) × (all ≡ eqb (count_used v (suc a) k) (count_used m (suc a) k))
          → (count_used m a (suc k) ≤ count_used v a (suc k)) × ((t || not u) && all ≡ eqb (count_used v a (suc k)) (count_used m a (suc k)))
      go true e true d r =
          let x = count-skip v a k (eqb-true (v a) 0 e) in
          let y = count-skip m a k (eqb-true (m a) 0 d) in
          (omega (arith, x, y, r.0), rw (x, y) r.1)
      go true e false d r = absurd (f a (eqb-false (m a) 0 d) (eqb-true (v a) 0 e))
      go false e true d r =
          let x = count_add v a k (eqb-false (v a) 0 e) in
          let y = count-skip m a k (eqb-true (m a) 0 d) in
          (omega (arith, x, y, r.0), sym (ne_eqb (count_used v a (suc k)) (count_used m a (suc k)) (λ z. omega (arith, x, y, z, r.0))))
      go false e false d r =
          let x = count_add v a k (eqb-false (v a) 0 e) in
          let y = count_add m a k (eqb-false (m a) 0 d) in
          (omega (arith, x, y, r.0), r.1 ∙ eqb-shift (count_used v (suc a) k) (count_used m (suc a) k) (count_used v a (suc k)) (count_used m a (suc k)) 1 (omega (arith, x)) (omega (arith, y)))

pub rest-counted : (v m : ℕ → ℕ) (low size : ℕ) → low ≤ size → all_ones v 0 low ≡ true → ((b : ℕ) → b < low → m b ≡ 0) → ((b : ℕ) → (m b ≡ 0 → ⊥) → v b ≡ 0 → ⊥)
    → every (λ b. eqb (v b) 0 || not (eqb (m b) 0)) (interval low (size - low)) ≡ eqb (count_used v 0 size) (low + count_used m 0 size)
unfolding all_ones
rest-counted v m low size h ones none f =
    let z : 0 + low ≡ low = omega arith in
    let x : count_used v 0 size ≡ count_used v 0 low + count_used v low (size - low) = rw z at (count_used-split v 0 size low h) in
    let y : count_used m 0 size ≡ count_used m 0 low + count_used m low (size - low) = rw z at (count_used-split m 0 size low h) in
    let a = count-all v low 0 ones in
    let b = count_none m low 0 (λ b l u. none b (omega arith)) in
    (covered v m f (size - low) low).1
    ∙ eqb-shift (count_used v low (size - low)) (count_used m low (size - low)) (count_used v 0 size) (low + count_used m 0 size) low (omega (arith, x, a)) (omega (arith, y, b))

-- the blocks of right chains
module _ (v : ℕ → ℕ) (n : ℕ) (low : min_blocks ≤ n) (cs : List (ℕ × ℕ)) (good : every (λ c. chain_ok v n c.0 c.1) cs ≡ true) where
  pub owned_in : (b : ℕ) → In b (owned v cs) → (table_blocks n < b) × (b < n) × (v b ≡ 0 → ⊥)
  unfolding owned
  owned_in b i =
      let r = of-join (λ c. chain v c.0 c.1) cs b i in
      let c = chain_ok-split v n r.0.0 r.0.1 (every_in (λ c. chain_ok v n c.0 c.1) cs r.0 good r.1) in
      let p = in-chain v r.0.0 r.0.1 b r.2 in
      (rw p.2 (c.above p.0 p.1), rw p.2 (c.below p.0 p.1), λ z. chain-used v n r.0.0 r.0.1 c low p.0 p.1 (ap v (sym p.2) ∙ z))

-- no entry from n on is in use, so that the count serves stage 7
module _ (s : List ℕ) (n : ℕ) (shape : Shape s n) where
  table_counted : (cs : List (ℕ × ℕ)) → table_ok (next s) n cs ≡ true → count_used (next s) 0 (128 * table_blocks n) ≡ count_used (next s) 0 n
  unfolding table_ok all_ones
  table_counted cs e =
      let os : List ℕ = owned (next s) cs in
      let w = and_split (every (λ c. chain_ok (next s) n c.0 c.1) cs) _ e in
      let d = and_split (distinct eqb os) _ w.1 in
      let r = and_split (every (λ b. eqb (next s b) 1) (interval 0 (table_blocks n + 1))) _ d.1 in
      let l = shape.low in
      let none = count_none (next s) (128 * table_blocks n - n) n (λ b h u.
      let t = every_in (λ b. eqb (next s b) 0 || has eqb b os) (interval (table_blocks n + 1) (128 * table_blocks n - (table_blocks n + 1))) b r.1
      (interval-in (128 * table_blocks n - (table_blocks n + 1)) (table_blocks n + 1) b (omega (arith, l)) (omega (arith, l))) in
      ⊎_elim (λ z. eqb-true (next s b) 0 z) (λ z. absurd (let q = owned_in (next s) n l cs w.0 b (has-eqb-in b os z) in omega (arith, q.1))) (or_split (eqb (next s b) 0) (has eqb b os) t)) in
      let z : 0 + n ≡ n = omega arith in
      let x : count_used (next s) 0 (128 * table_blocks n) ≡ count_used (next s) 0 n + count_used (next s) n (128 * table_blocks n - n) = rw z at (count_used-split (next s) 0 (128 * table_blocks n) n (omega (arith, l))) in
      omega (arith, x, none)

  pub stage6-counted : stage6 s ≡ true → count_used (next s) 0 (128 * table_blocks n) ≡ count_used (next s) 0 n
  unfolding stage6
  stage6-counted e =
      let z : block_count s ≡ n = shape-block_count s n shape in
      table_counted (all_chains s) (ap (λ (k : ℕ). table_ok (next s) k (all_chains s)) (sym z) ∙ e)

pub count_used-most : (v : ℕ → ℕ) (n : ℕ) → count_used v 0 n ≤ n
unfolding count_used occupied
count_used-most v n = occupied-most v n
