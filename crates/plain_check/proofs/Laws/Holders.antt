-- Stage 6 over any list of chains: no block stands twice among right chains, and every entry that is not 0 is of a chain, exactly if each block is held
-- by one chain, or by none where its entry is 0.
use Prim.Native.Nat.{ℕ, ◌+◌, ◌-◌, ◌*◌, ◌≤◌, ◌<◌}
use mathlib.Core.Bool.{Bool, true, false, not, ◌&&◌, ◌||◌}
use mathlib.Core.List.{List, [], ◌∷◌}
use mathlib.Core.Logic.{inl, inr, ⊎_elim, ◌≢◌}
use mathlib.Core.Path.{◌≡◌, refl, ap, ◌∙◌}
use native.Mathlib.Omega.{arith}
use lib.Dec.{eqb, leb}
use lib.ListN.{length, length-append}
use borrow.Author.Tests.{eq-eqb, eqb-true, ne_eqb, le-leb, leb-true}
use Rattle.layout.specs.Lists.{interval, every, has, distinct}
use Rattle.layout.specs.Limits.{min_blocks}
use Rattle.layout.specs.Geometry.{table_blocks}
use Rattle.layout.specs.Table.{chain, chain_ok, occupied, all_ones}
use Rattle.layout.specs.Check.{owned, table_ok}
use Rattle.layout.proofs.Laws.Tests.{and_split, and-join, or_split, true-not-false, true-or-false, eqb-self, lt-or-ge}
use Rattle.layout.proofs.Laws.Lists.{In, in_left, in_right, in-append, every_in, every-interval, interval-every, has-eqb-in, in-has-eqb, false-has, head_apart, tail-distinct, distinct-right, distinct_append, distinct_apart}
use Rattle.layout.proofs.Laws.Joins.{of-join}
use Rattle.layout.proofs.Laws.Chains.{Chain, length-chain, in-chain, chain_ok-split, chain-distinct, chain-used}
use Rattle.layout.proofs.Laws.Counts.{occupied-up, occupied-most}
use Rattle.plain_check.specs.Plain.{one, total, holds}
use Rattle.plain_check.proofs.Laws.Chains.{holds_has, both_ways}

abbrev pub Pair : Type 0
Pair = ℕ × ℕ

-- how many of the chains hold block b
abbrev pub tally : (ℕ → ℕ) → ℕ → List Pair → ℕ
tally v b cs = total (λ c. one (holds v b c.0 c.1)) cs

-- how many blocks they claim, and what is counted of it: n + 1 more for a chain that is wrong
abbrev claimed : List Pair → ℕ
claimed cs = total (λ c. c.1) cs

abbrev pub claim : (ℕ → ℕ) → ℕ → Pair → ℕ
claim v n c = c.1 + (n + 1) * one (not (chain_ok v n c.0 c.1))

abbrev right_all : (ℕ → ℕ) → ℕ → List Pair → Bool
right_all v n cs = every (λ c. chain_ok v n c.0 c.1) cs

-- stage 6 of the plain check, over a list of chains
abbrev pub plain_table : (ℕ → ℕ) → ℕ → List Pair → Bool
plain_table v n cs =
    let t = table_blocks n in
    leb (total (claim v n) cs) n && (every (λ b. eqb (v b) 1) (interval 0 (t + 1))
    && (every (λ b. eqb (tally v b cs) (one (not (eqb (v b) 0)))) (interval (t + 1) (n - (t + 1))) && every (λ b. eqb (v b) 0) (interval n (128 * t - n))))

-- a chain that claims at most n is right
claim-right : (v : ℕ → ℕ) (n : ℕ) (c : Pair) → claim v n c ≤ n → (claim v n c ≡ c.1) × (chain_ok v n c.0 c.1 ≡ true)
claim-right v n c h = go (chain_ok v n c.0 c.1) h
  where
    go : (t : Bool) → c.1 + (n + 1) * one (not t) ≤ n → (c.1 + (n + 1) * one (not t) ≡ c.1) × (t ≡ true)
    go true h = (omega arith, refl)
    go false h = absurd (omega arith)

claims-right : (v : ℕ → ℕ) (n : ℕ) (cs : List Pair) → total (claim v n) cs ≤ n → right_all v n cs ≡ true
claims-right v n [] h = refl
claims-right v n (c ∷ cs) h = and-join (claim-right v n c (omega arith)).1 (claims-right v n cs (omega arith))

right-claims : (v : ℕ → ℕ) (n : ℕ) (cs : List Pair) → right_all v n cs ≡ true → claimed cs ≤ n → total (claim v n) cs ≡ claimed cs
right-claims v n [] e h = refl
right-claims v n (c ∷ cs) e h =
    let a = and_split (chain_ok v n c.0 c.1) (right_all v n cs) e in
    let z : claim v n c ≡ c.1 = rw a.0 (omega arith) in
    omega (arith, right-claims v n cs a.1 (omega arith))

-- a chain's blocks
abbrev blocks_on : (ℕ → ℕ) → Pair → List ℕ
blocks_on v c = chain v c.0 c.1

module _ (v : ℕ → ℕ) (b : ℕ) where
  tally-more : (c : Pair) (cs : List Pair) → tally v b (c ∷ cs) ≡ one (has eqb b (blocks_on v c)) + tally v b cs
  tally-more c cs = ap (λ (t : Bool). one t + tally v b cs) (holds_has v b c.0 c.1)

  tally-zero : (cs : List Pair) → (In b (owned v cs) → ⊥) → tally v b cs ≡ 0
  unfolding owned
  tally-zero [] f = refl
  tally-zero (c ∷ cs) f =
      let z : one (has eqb b (blocks_on v c)) ≡ 0 = ap one (false-has b (blocks_on v c) (λ i. f (in_left b (blocks_on v c) (owned v cs) i))) in
      omega (arith, tally-more c cs, tally-zero cs (λ i. f (in_right b (blocks_on v c) (owned v cs) i)))

  tally-some : (cs : List Pair) → In b (owned v cs) → 1 ≤ tally v b cs
  unfolding owned
  tally-some [] i = elim i [ ]
  tally-some (c ∷ cs) i =
      ⊎_elim
      (λ j. let z : one (has eqb b (blocks_on v c)) ≡ 1 = ap one (in-has-eqb b (blocks_on v c) j) in omega (arith, tally-more c cs))
      (λ j. omega (arith, tally-more c cs, tally-some cs j))
      (in-append b (blocks_on v c) (owned v cs) i)

  tally-most : (cs : List Pair) → distinct eqb (owned v cs) ≡ true → tally v b cs ≤ 1
  unfolding owned
  tally-most [] d = omega arith
  tally-most (c ∷ cs) d =
      ⊎_elim
      (λ h.
      let z : one (has eqb b (blocks_on v c)) ≡ 1 = ap one h in
      let r = tally-zero cs (λ j. distinct_apart eqb eqb-true eqb-self (blocks_on v c) (owned v cs) d b (has-eqb-in b (blocks_on v c) h) j) in
      omega (arith, tally-more c cs))
      (λ h.
      let z : one (has eqb b (blocks_on v c)) ≡ 0 = ap one h in
      omega (arith, tally-more c cs, tally-most cs (distinct-right eqb eqb-true eqb-self (blocks_on v c) (owned v cs) d)))
      (true-or-false (has eqb b (blocks_on v c)))

-- chains of different blocks, each block in one of them at most
tally-distinct : (v : ℕ → ℕ) (cs : List Pair) → ((c : Pair) → In c cs → distinct eqb (blocks_on v c) ≡ true) → ((b : ℕ) → tally v b cs ≤ 1) → distinct eqb (owned v cs) ≡ true
unfolding owned
tally-distinct v [] f g = refl
tally-distinct v (c ∷ cs) f g =
    distinct_append eqb eqb-true eqb-self (blocks_on v c) (owned v cs) (f c (inl refl))
    (tally-distinct v cs (λ x i. f x (inr i)) (λ b. omega (arith, g b, tally-more v b c cs)))
    (λ b i j.
    let z : one (has eqb b (blocks_on v c)) ≡ 1 = ap one (in-has-eqb b (blocks_on v c) i) in
    omega (arith, g b, tally-more v b c cs, tally-some v b cs j))

-- different numbers below n are at most n; a list of chains claims as many as it owns
pub distinct-most : (n : ℕ) (xs : List ℕ) → distinct eqb xs ≡ true → ((x : ℕ) → In x xs → x < n) → length xs ≤ occupied (λ b. one (has eqb b xs)) n
distinct-most n [] d f = omega arith
distinct-most n (x ∷ xs) d f =
    let up = occupied-up (λ b. one (has eqb b xs)) (λ b. one (has eqb b (x ∷ xs))) n x (f x (inl refl))
    (ap one (false-has x xs (head_apart x xs d)))
    (λ e. unit (rw (eqb-self x) at e))
    (λ c h ne. rw (ne_eqb c x ne)) in
    omega (arith, distinct-most n xs (tail-distinct x xs d) (λ y i. f y (inr i)))
  where
    unit : ◌≡◌ {A = ℕ} 1 0 → ⊥
    unit e = omega arith

length-owned : (v : ℕ → ℕ) (cs : List Pair) → length (owned v cs) ≡ claimed cs
unfolding owned
length-owned v [] = refl
length-owned v (c ∷ cs) = length-append (blocks_on v c) (owned v cs) ∙ omega (arith, length-chain v c.0 c.1, length-owned v cs)

-- right chains
module _ (v : ℕ → ℕ) (n : ℕ) (h₃ : min_blocks ≤ n) (cs : List Pair) (ok : every (λ c. chain_ok v n c.0 c.1) cs ≡ true) where
  record Held (b : ℕ) : Type 0 where
    above : table_blocks n < b
    below : b < n
    used : v b ≢ 0

  right : (c : Pair) → In c cs → Chain v n c.0 c.1
  right c i = chain_ok-split v n c.0 c.1 (every_in (λ (c : Pair). chain_ok v n c.0 c.1) cs c ok i)

  held : (b : ℕ) → In b (owned v cs) → Held b
  unfolding owned
  held b i =
      let r = of-join (λ (c : Pair). chain v c.0 c.1) cs b i in
      let c = right r.0 r.1 in
      let x = in-chain v r.0.0 r.0.1 b r.2 in
      record {
        above = rw x.2 (c.above x.0 x.1);
        below = rw x.2 (c.below x.0 x.1);
        used = rw x.2 (chain-used v n r.0.0 r.0.1 c h₃ x.0 x.1);
      }

  -- what each asks of a block
  abbrev apart_all : Bool
  apart_all = distinct eqb (owned v cs)

  abbrev t : ℕ
  t = table_blocks n

  abbrev owned_all : Bool
  owned_all = every (λ b. eqb (v b) 0 || has eqb b (owned v cs)) (interval (t + 1) (128 * t - (t + 1)))

  abbrev counted_all : Bool
  counted_all = every (λ b. eqb (tally v b cs) (one (not (eqb (v b) 0)))) (interval (t + 1) (n - (t + 1)))

  abbrev padded_all : Bool
  padded_all = every (λ b. eqb (v b) 0) (interval n (128 * t - n))

  counted : apart_all ≡ true → owned_all ≡ true → counted_all ≡ true
  counted d o =
      interval-every (λ b. eqb (tally v b cs) (one (not (eqb (v b) 0)))) (t + 1) (n - (t + 1))
      (λ b g l. ⊎_elim
      (λ z. rw z (eq-eqb (tally v b cs) 0 (tally-zero v b cs (λ i. (held b i).used (eqb-true (v b) 0 z)))))
      (λ z. rw z
      (let w = every-interval (λ b. eqb (v b) 0 || has eqb b (owned v cs)) (t + 1) (128 * t - (t + 1)) o b g (omega arith) in
      let i : In b (owned v cs) = ⊎_elim (λ a. absurd (true-not-false a z)) (λ a. has-eqb-in b (owned v cs) a) (or_split (eqb (v b) 0) (has eqb b (owned v cs)) w) in
      eq-eqb (tally v b cs) 1 (omega (arith, tally-most v b cs d, tally-some v b cs i))))
      (true-or-false (eqb (v b) 0)))

  padded : owned_all ≡ true → padded_all ≡ true
  padded o =
      interval-every (λ b. eqb (v b) 0) n (128 * t - n)
      (λ b g l.
      let w = every-interval (λ b. eqb (v b) 0 || has eqb b (owned v cs)) (t + 1) (128 * t - (t + 1)) o b (omega arith) (omega arith) in
      ⊎_elim (λ a. a) (λ a. absurd (omega (arith, (held b (has-eqb-in b (owned v cs) a)).below))) (or_split (eqb (v b) 0) (has eqb b (owned v cs)) w))

  apart : counted_all ≡ true → apart_all ≡ true
  apart c =
      tally-distinct v cs (λ x i. chain-distinct v n x.0 x.1 (right x i) h₃)
      (λ b. ⊎_elim
      (λ i.
      let h = held b (has-eqb-in b (owned v cs) i) in
      let e = eqb-true (tally v b cs) (one (not (eqb (v b) 0)))
      (every-interval (λ b. eqb (tally v b cs) (one (not (eqb (v b) 0)))) (t + 1) (n - (t + 1)) c b (omega arith) (omega arith)) in
      let o : one (not (eqb (v b) 0)) ≡ 1 = ap (λ (x : Bool). one (not x)) (ne_eqb (v b) 0 h.used) in
      omega arith)
      (λ i. omega (arith, tally-zero v b cs (λ j. true-not-false (in-has-eqb b (owned v cs) j) i)))
      (true-or-false (has eqb b (owned v cs))))

  few : apart_all ≡ true → leb (total (claim v n) cs) n ≡ true
  few d =
      let most : claimed cs ≤ n = omega (arith, length-owned v cs, distinct-most n (owned v cs) d (λ b i. (held b i).below), occupied-most (λ b. one (has eqb b (owned v cs))) n) in
      le-leb (total (claim v n) cs) n (omega (arith, right-claims v n cs ok most))

  all-owned : counted_all ≡ true → padded_all ≡ true → owned_all ≡ true
  all-owned c p =
      interval-every (λ b. eqb (v b) 0 || has eqb b (owned v cs)) (t + 1) (128 * t - (t + 1))
      (λ b g l. ⊎_elim
      (λ i. or_right (eqb (v b) 0) (has eqb b (owned v cs)) i)
      (λ i. or_left (eqb (v b) 0) (has eqb b (owned v cs)) (⊎_elim
      (λ m.
      let e = eqb-true (tally v b cs) (one (not (eqb (v b) 0)))
      (every-interval (λ b. eqb (tally v b cs) (one (not (eqb (v b) 0)))) (t + 1) (n - (t + 1)) c b g (omega arith)) in
      let z = tally-zero v b cs (λ j. true-not-false (in-has-eqb b (owned v cs) j) i) in
      one_none (eqb (v b) 0) (omega arith))
      (λ m. every-interval (λ b. eqb (v b) 0) n (128 * t - n) p b m (omega arith))
      (lt-or-ge b n)))
      (true-or-false (has eqb b (owned v cs))))
    where
      or_right : (x y : Bool) → y ≡ true → (x || y) ≡ true
      or_right true y e = refl
      or_right false y e = e

      or_left : (x y : Bool) → x ≡ true → (x || y) ≡ true
      or_left x y e = rw e

      one_none : (x : Bool) → one (not x) ≡ 0 → x ≡ true
      one_none true e = refl
      one_none false e = absurd (omega arith)

-- THE TABLE, counted
pub table_counted : (v : ℕ → ℕ) (n : ℕ) → min_blocks ≤ n → (cs : List Pair) → plain_table v n cs ≡ table_ok v n cs
unfolding table_ok all_ones
table_counted v n h cs =
    both_ways _ _
    (λ e.
    let l = and_split (leb (total (claim v n) cs) n) _ e in
    let ok = claims-right v n cs (leb-true (total (claim v n) cs) n l.0) in
    let b = and_split (every (λ b. eqb (v b) 1) (interval 0 (table_blocks n + 1))) _ l.1 in
    let c = and_split (counted_all v n h cs ok) (padded_all v n h cs ok) b.1 in
    and-join ok (and-join (apart v n h cs ok c.0) (and-join b.0 (all-owned v n h cs ok c.0 c.1))))
    (λ e.
    let a = and_split (every (λ (c : Pair). chain_ok v n c.0 c.1) cs) _ e in
    let b = and_split (distinct eqb (owned v cs)) _ a.1 in
    let c = and_split (every (λ b. eqb (v b) 1) (interval 0 (table_blocks n + 1))) _ b.1 in
    and-join (few v n h cs a.0 b.0) (and-join c.0 (and-join (counted v n h cs a.0 b.0 c.1) (padded v n h cs a.0 c.1))))
