-- The blocks that are free when those of a chain are freed: the walk along the chain for the lowest, the walk along the table for a free one, and the lower
-- one of both.
use Prim.Native.Nat.{ℕ, ◌+◌, ◌-◌, ◌≤◌, ◌<◌, min}
use mathlib.Core.Path.{◌≡◌, refl, sym, ap, subst, ◌∙◌}
use mathlib.Core.Bool.{Bool, true, false, cond, ◌||◌}
use mathlib.Core.List.{List}
use mathlib.Core.Logic.{⊎_elim, ◌≢◌}
use native.Mathlib.Omega.{arith}
use lib.Dec.{eqb}
use lib.ListN.{length}
use borrow.Author.Tests.{eq-eqb, ne_eqb}
use Rattle.layout.specs.Lists.{has}
use Rattle.layout.specs.Table.{next, chain}
use Rattle.layout.specs.Walks.Chains.{count_used}
use Rattle.layout.specs.Walks.Shapes.{ChainBelow}
use Rattle.volume.specs.Search.{lowest_free}
use Rattle.volume.specs.Walks.Searches.{without, free_from, First, FirstFree}
use Rattle.volume.proofs.Laws.Notes.{first-is, first_of, first_either, first-same}
use Rattle.volume.proofs.Walks.Grow.{first-free}
use Rattle.layout.proofs.Laws.Tests.{lt-or-ge}
use Rattle.layout.proofs.Laws.Chains.{chain-suc, chain-none}
use Rattle.layout.proofs.Walks.Chains.{count_used-all}
use Rattle.layout.proofs.Walks.Shapes.{run-rest}

-- the walk that looks for the lowest block from `from` on
pub record Nearing (s : List ℕ) (n from : ℕ) (goal : List ℕ) (lowest b left : ℕ) : Type 0 where
  pub run : ChainBelow s n b left
  pub high : lowest ≤ n
  pub join : (r : ℕ) → First (λ x. has eqb x (chain (next s) b left)) from n r → First (λ x. has eqb x goal) from n (min lowest r)

pub nearing : (s : List ℕ) (n from first k left : ℕ) → ChainBelow s n first k → k ≡ left → Nearing s n from (chain (next s) first k) n first left
nearing s n from first k left run q =
    subst (Nearing s n from (chain (next s) first k) n first) q
    (record {
      run = run;
      high = omega arith;
      join = λ r f. let e : min n r ≡ r = omega (arith, f.high) in subst (λ (x : ℕ). First (λ y. has eqb y (chain (next s) first k)) from n x) (sym e) f;
    })

-- block b, if it is not below `from`
module _ (n from b : ℕ) (below : b < n) where
  pub ahead_none : b < from → First (λ x. eqb x b) from n n
  ahead_none h = record { high = omega arith; before = λ c l u. ne_eqb c b (λ e. omega arith); met = λ k. absurd (omega arith) }

  pub ahead-here : from ≤ b → First (λ x. eqb x b) from n b
  ahead-here h = record { high = omega arith; before = λ c l u. ne_eqb c b (λ e. omega arith); met = λ k. (h, eq-eqb b b refl) }

least-of : (a b c : ℕ) → min a (min b c) ≡ min (min a b) c
least-of a b c = omega arith

module _ {s : List ℕ} {n from : ℕ} {goal : List ℕ} {lowest b left : ℕ} (w : Nearing s n from goal lowest b left) where
  pub nearest : left ≡ 0 → First (λ x. has eqb x goal) from n lowest
  nearest e =
      let none : First (λ x. has eqb x (chain (next s) b left)) from n n =
      record { high = omega arith; before = λ c l u. ap (has eqb c) (chain-none (next s) b left e); met = λ k. absurd (omega arith) } in
      let q : min lowest n ≡ lowest = omega (arith, w.high) in
      subst (λ (x : ℕ). First (λ y. has eqb y goal) from n x) q (w.join n none)

  pub near-turn : (left' x : ℕ) → left' + 1 ≡ left → First (λ y. eqb y b) from n x → Nearing s n from goal (min lowest x) (next s b) left'
  near-turn left' x e f =
      let pos : 0 < left = omega arith in
      let q : left - 1 ≡ left' = omega arith in
      subst (Nearing s n from goal (min lowest x) (next s b)) q
      (record {
        run = run-rest w.run pos;
        high = omega (arith, w.high);
        join = λ r g.
            subst (λ (y : ℕ). First (λ z. has eqb z goal) from n y) (least-of lowest x r)
            (w.join (min x r)
            (first-same (λ y. eqb y b || has eqb y (chain (next s) (next s b) (left - 1))) (λ y. has eqb y (chain (next s) b left)) from n (min x r)
            (λ y h. ap (has eqb y) (chain-suc (next s) b left pos))
            (first_either (λ y. eqb y b) (λ y. has eqb y (chain (next s) (next s b) (left - 1))) from n x r f g)));
      })

-- a block is free, or one of those freed
module _ (v : ℕ → ℕ) (bs : List ℕ) (b : ℕ) where
  vacant-test : eqb (without v bs b) 0 ≡ (eqb (v b) 0 || has eqb b bs)
  unfolding without
  vacant-test = go (has eqb b bs) (eqb (v b) 0) refl
    where
      go : (t u : Bool) → eqb (v b) 0 ≡ u → eqb (cond t 0 (v b)) 0 ≡ (u || t)
      go true true e = refl
      go true false e = refl
      go false true e = e
      go false false e = e

-- every block from a on, below b, is in use
pub record InUse (v : ℕ → ℕ) (a b : ℕ) : Type 0 where
  pub low : a ≤ b
  pub used : (c : ℕ) → a ≤ c → c < b → v c ≢ 0

pub in-use-none : (v : ℕ → ℕ) (a : ℕ) → InUse v a a
in-use-none v a = record { low = omega arith; used = λ c l u. absurd (omega arith) }

pub free-here : (v : ℕ → ℕ) (b n : ℕ) → b < n → v b ≡ 0 → First (λ x. eqb (v x) 0) b n b
free-here v b n h e = record { high = omega arith; before = λ c l u. absurd (omega arith); met = λ k. (omega arith, eq-eqb (v b) 0 e) }

module _ {v : ℕ → ℕ} {a b : ℕ} (w : InUse v a b) where
  in-use-more : (e : ℕ) → b ≤ e → ((c : ℕ) → b ≤ c → c < e → v c ≢ 0) → InUse v a e
  in-use-more e h f = record { low = omega (arith, w.low); used = λ c l u. ⊎_elim (λ k. w.used c l k) (λ k. f c k u) (lt-or-ge c b) }

  pub in-use-entry : v b ≢ 0 → InUse v a (b + 1)
  in-use-entry ne = in-use-more (b + 1) (omega arith) (λ c l u z. let e : b ≡ c = omega arith in ne (ap v e ∙ z))

  pub in-use-run : (k used : ℕ) → used ≡ count_used v b k → k ≤ used → InUse v a (b + k)
  in-use-run k used e h = in-use-more (b + k) (omega arith) (λ c l u. count_used-all v k b (omega arith) c l u)

  pub free-behind : (n r : ℕ) → First (λ x. eqb (v x) 0) b n r → First (λ x. eqb (v x) 0) a n r
  free-behind n r f =
      record {
        high = f.high;
        before = λ c l u. ⊎_elim (λ k. ne_eqb (v c) 0 (w.used c l k)) (λ k. f.before c k u) (lt-or-ge c b);
        met = λ k. (omega (arith, w.low, (f.met k).0), (f.met k).1);
      }

  pub free-nowhere : (n : ℕ) → n ≤ b → First (λ x. eqb (v x) 0) a n n
  free-nowhere n h = record { high = omega arith; before = λ c l u. ne_eqb (v c) 0 (w.used c l (omega arith)); met = λ k. absurd (omega arith) }

-- the first is the lowest
pub free-lowest : (v : ℕ → ℕ) (a n r : ℕ) → First (λ x. eqb (v x) 0) a n r → r ≡ lowest_free v a n
unfolding lowest_free
free-lowest v a n r f = first-is (λ x. eqb (v x) 0) n a r f

lowest-free : (v : ℕ → ℕ) (a n r : ℕ) → r ≡ lowest_free v a n → First (λ x. eqb (v x) 0) a n r
unfolding lowest_free
lowest-free v a n r e = subst (λ (x : ℕ). First (λ y. eqb (v y) 0) a n x) (sym e) (first_of (λ x. eqb (v x) 0) n a)

-- the lower one of a free block and a block of the chain
pub vacant-first : (v : ℕ → ℕ) (bs : List ℕ) (a n b c : ℕ) → a ≤ n → 0 < length (free_from (without v bs) a (n - a))
    → b ≡ lowest_free v a n → First (λ x. has eqb x bs) a n c → FirstFree (without v bs) a (n - a) (min b c)
vacant-first v bs a n b c h some e g =
    first-free (without v bs) a n (min b c) h some
    (first-same (λ x. eqb (v x) 0 || has eqb x bs) (λ x. eqb (without v bs x) 0) a n (min b c) (λ x l. vacant-test v bs x)
    (first_either (λ x. eqb (v x) 0) (λ x. has eqb x bs) a n b c (lowest-free v a n b e) g))
