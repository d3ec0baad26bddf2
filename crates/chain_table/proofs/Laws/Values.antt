-- Two tables of values that agree below n: the questions that the layout's Laws.Values does not have.
use Prim.Native.Nat.{ℕ, zero, suc, ◌+◌, ◌-◌, ◌*◌, ◌≤◌, ◌<◌}
use mathlib.Core.Bool.{Bool, true, false, not, ◌&&◌, ◌||◌, and_assoc, not-not}
use mathlib.Core.List.{List, [], ◌∷◌}
use mathlib.Core.Path.{◌≡◌, refl, sym, ap, ◌∙◌, subst}
use native.Mathlib.Omega.{arith}
use lib.Dec.{eqb}
use lib.ListN.{get_or}
use borrow.Author.Tests.{eq-eqb}
use Rattle.layout.specs.Limits.{min_blocks}
use Rattle.layout.specs.Lists.{interval, every, select, has, distinct}
use Rattle.layout.specs.Geometry.{table_blocks}
use Rattle.layout.specs.Table.{chain, chain_ok, free_blocks, all_ones, rest_free}
use Rattle.layout.specs.Check.{owned, table_ok}
use Rattle.layout.proofs.Laws.Tests.{and_split}
use Rattle.layout.proofs.Laws.Lists.{every-same, interval-every, select-same, false-has}
use Rattle.layout.proofs.Laws.Joins.{in-interval}
use Rattle.layout.proofs.Laws.Chains.{get_d-chain, chain_ok-split}
use Rattle.layout.proofs.Laws.Values.{chain_same, ends_same, ones-same}
use Rattle.layout.proofs.Walks.Used.{owned_in}
use Rattle.volume.specs.Search.{lowest_free}

-- a test of an interval, in two parts
every-split : (p : ℕ → Bool) (j a k : ℕ) → every p (interval a (j + k)) ≡ (every p (interval a j) && every p (interval (a + j) k))
every-split p zero a k = let e : 0 + k ≡ k = omega arith in let f : a + 0 ≡ a = omega arith in rw (e, f)
every-split p (suc j) a k =
    let e : suc j + k ≡ suc (j + k) = omega arith in
    let f : a + suc j ≡ suc a + j = omega arith in
    rw (e, f) (ap (λ (t : Bool). p a && t) (every-split p j (suc a) k) ∙ sym (and_assoc (p a) (every p (interval (suc a) j)) (every p (interval (suc a + j) k))))

-- stage 6's last clause, by a mark for each owned block
pub rest-owned : (v : ℕ → ℕ) (m os : List ℕ) → ((b : ℕ) → eqb (get_or m b 0) 0 ≡ not (has eqb b os)) → (a k : ℕ)
    → rest_free v m a k ≡ every (λ b. eqb (v b) 0 || has eqb b os) (interval a k)
unfolding rest_free
rest-owned v m os marks a k =
    every-same (λ b. eqb (v b) 0 || not (eqb (get_or m b 0) 0)) (λ b. eqb (v b) 0 || has eqb b os) (interval a k)
    (λ b i. ap (λ (t : Bool). eqb (v b) 0 || t) (ap not (marks b) ∙ not-not (has eqb b os)))

module _ (v w : ℕ → ℕ) (n : ℕ) (same : (b : ℕ) → b < n → v b ≡ w b) where
  pub chain-ok-same : (b k : ℕ) → chain_ok v n b k ≡ chain_ok w n b k
  unfolding chain_ok
  chain-ok-same b zero = refl
  chain-ok-same b (suc k) = ends_same v w n same (suc k) b

  free-from : (a : ℕ) → select (λ b. eqb (v b) 0) (interval a (n - a)) ≡ select (λ b. eqb (w b) 0) (interval a (n - a))
  free-from a = select-same (λ b. eqb (w b) 0) (λ b. eqb (v b) 0) (n - a) a (λ x h g. ap (λ (y : ℕ). eqb y 0) (same x (omega arith)))

  pub free-same : free_blocks v n ≡ free_blocks w n
  unfolding free_blocks
  free-same = let z : n - 0 ≡ n = omega arith in rw z at (free-from 0)

  pub lowest-same : (a : ℕ) → lowest_free v a n ≡ lowest_free w a n
  unfolding lowest_free
  lowest-same a = ap (λ (bs : List ℕ). get_or bs 0 n) (free-from a)

  -- right chains are the same blocks on both
  pub owned-same : (cs : List (ℕ × ℕ)) → every (λ c. chain_ok w n c.0 c.1) cs ≡ true → owned v cs ≡ owned w cs
  unfolding owned
  owned-same [] e = refl
  owned-same (c ∷ cs) e =
      let a = and_split (chain_ok w n c.0 c.1) _ e in
      let below : (i : ℕ) → i < c.1 → get_or (chain w c.0 c.1) i 0 < n = λ i h.
      subst (λ (x : ℕ). x < n) (sym (get_d-chain w c.0 c.1 i h)) ((chain_ok-split w n c.0 c.1 a.0).below i h) in
      let x : chain v c.0 c.1 ≡ chain w c.0 c.1 = chain_same v w n same c.0 c.1 below in
      rw (x, owned-same cs a.1)

  chains-same : (cs : List (ℕ × ℕ)) → every (λ c. chain_ok v n c.0 c.1) cs ≡ every (λ c. chain_ok w n c.0 c.1) cs
  chains-same [] = refl
  chains-same (c ∷ cs) = rw (chain-ok-same c.0 c.1, chains-same cs)

  -- STAGE 6, where v is 0 from n on: what v says, and that w is 0 there too
  module _ (low : min_blocks ≤ n) (past : (b : ℕ) → n ≤ b → v b ≡ 0) (cs : List (ℕ × ℕ)) where
    abbrev t : ℕ
    t = table_blocks n

    abbrev padding : Bool
    padding = every (λ b. eqb (w b) 0) (interval n (128 * t - n))

    abbrev free_or : (ℕ → ℕ) → List ℕ → ℕ → Bool
    free_or u os b = eqb (u b) 0 || has eqb b os

    module _ (good : every (λ c. chain_ok w n c.0 c.1) cs ≡ true) where
      abbrev os : List ℕ
      os = owned w cs

      two : (u : ℕ → ℕ) → every (free_or u os) (interval (t + 1) (128 * t - (t + 1))) ≡ (every (free_or u os) (interval (t + 1) (n - (t + 1))) && every (free_or u os) (interval n (128 * t - n)))
      two u =
          let e : 128 * t - (t + 1) ≡ n - (t + 1) + (128 * t - n) = omega arith in
          let f : t + 1 + (n - (t + 1)) ≡ n = omega arith in
          ap (λ (k : ℕ). every (free_or u os) (interval (t + 1) k)) e ∙ every-split (free_or u os) (n - (t + 1)) (t + 1) (128 * t - n)
          ∙ ap (λ (x : ℕ). every (free_or u os) (interval (t + 1) (n - (t + 1))) && every (free_or u os) (interval x (128 * t - n))) f

      below-n : every (free_or v os) (interval (t + 1) (n - (t + 1))) ≡ every (free_or w os) (interval (t + 1) (n - (t + 1)))
      below-n =
          every-same (free_or v os) (free_or w os) (interval (t + 1) (n - (t + 1)))
          (λ b i. ap (λ (x : ℕ). eqb x 0 || has eqb b os) (same b (omega (arith, (in-interval (t + 1) (n - (t + 1)) b i).1))))

      from-n : every (free_or w os) (interval n (128 * t - n)) ≡ padding
      from-n =
          every-same (free_or w os) (λ b. eqb (w b) 0) (interval n (128 * t - n))
          (λ b i. let h = in-interval n (128 * t - n) b i in
          either (eqb (w b) 0) (has eqb b os) (false-has b os (λ j. omega (arith, h.0, (owned_in w n low cs good b j).1))))
        where
          either : (x y : Bool) → y ≡ false → (x || y) ≡ x
          either true y e = refl
          either false y e = e

      all-zero : every (free_or v os) (interval n (128 * t - n)) ≡ true
      all-zero = interval-every (free_or v os) n (128 * t - n) (λ b h g. rw (eq-eqb (v b) 0 (past b h)))

      rest : every (free_or w os) (interval (t + 1) (128 * t - (t + 1))) ≡ (every (free_or v os) (interval (t + 1) (128 * t - (t + 1))) && padding)
      rest = two w ∙ rw (two v, below-n, from-n, all-zero) (end (every (free_or w os) (interval (t + 1) (n - (t + 1)))))
        where
          end : (x : Bool) → (x && padding) ≡ (x && true && padding)
          end true = refl
          end false = refl

      right : table_ok w n cs ≡ (table_ok v n cs && padding)
      unfolding table_ok
      right =
          rw (chains-same cs, good, owned-same cs good, ones-same v w n same 0 (t + 1) (omega arith), rest)
          (turned (distinct eqb os) (all_ones w 0 (t + 1)) (every (free_or v os) (interval (t + 1) (128 * t - (t + 1)))))
        where
          turned : (d o r : Bool) → (d && (o && (r && padding))) ≡ (d && (o && r) && padding)
          turned true true r = refl
          turned true false r = refl
          turned false o r = refl

    wrong : every (λ c. chain_ok w n c.0 c.1) cs ≡ false → table_ok w n cs ≡ (table_ok v n cs && padding)
    unfolding table_ok
    wrong bad = rw (chains-same cs, bad)

    pub table-ok-same : table_ok w n cs ≡ (table_ok v n cs && padding)
    table-ok-same = go (every (λ c. chain_ok w n c.0 c.1) cs) refl
      where
        go : (x : Bool) → every (λ c. chain_ok w n c.0 c.1) cs ≡ x → table_ok w n cs ≡ (table_ok v n cs && padding)
        go true e = right e
        go false e = wrong e
