-- The walks with marks and the rules on chains: a walk is right exactly if the rule holds, and then just its blocks are marked.
use Prim.Native.Nat.{ℕ, zero, suc, ◌≤◌, ◌<◌}
use mathlib.Core.Bool.{Bool, true, false, not, cond, ◌&&◌, ◌||◌, and-false, false≢true, or-true, or-false, or_assoc, and-true}
use mathlib.Core.List.{List, [], ◌∷◌, ◌++◌, append_assoc, append-nil}
use mathlib.Core.Path.{◌≡◌, refl, sym, ◌∙◌, subst, ap}
use native.Mathlib.Omega.{arith}
use lib.Dec.{eqb}
use lib.ListN.{length, get_or, set, length-set}
use lib.Seq.{append_snoc, get_or-set_other, get_or-set_same}
use borrow.Author.Tests.{eqb-false, eqb-true}
use Rattle.layout.specs.Lists.{every, has, distinct, joined}
use Rattle.layout.specs.Bytes.{zeros}
use Rattle.layout.specs.Geometry.{in_volume}
use Rattle.layout.specs.Table.{chain, ends_after, chain_ok}
use Rattle.layout.specs.Check.{owned}
use Rattle.layout.specs.Walks.Chains.{Walk, walked, walk, follow, follow_all}
use Rattle.layout.proofs.Laws.Bytes.{get_d-zeros}
use Rattle.layout.proofs.Laws.Chains.{in_volume-below}
use Rattle.layout.proofs.Laws.Lists.{In, in-here, in-elim, distinct-left, distinct_apart, distinct_append, has-eqb-in, in-has-eqb}
use Rattle.layout.proofs.Laws.Tests.{and_split, true-not-false, is_false, eqb-self}

-- the blocks os are marked in m, and no others
pub record Marked (m os : List ℕ) : Type 0 where
  pub at : (x : ℕ) → eqb (get_or m x 0) 0 ≡ not (has eqb x os)

pub marked-zeros : (k : ℕ) → Marked (zeros k) []
marked-zeros k = record { at = λ x. rw (get_d-zeros k x) }

has-snoc : (x b : ℕ) (os : List ℕ) → has eqb x (os ++ (b ∷ [])) ≡ has eqb x os || eqb x b
has-snoc x b [] = or-false (eqb x b)
has-snoc x b (y ∷ os) = rw (has-snoc x b os) (sym (or_assoc (eqb x y) (has eqb x os) (eqb x b)))

pub marked_more : (m os : List ℕ) (b : ℕ) → b < length m → Marked m os → Marked (set m b 1) (os ++ (b ∷ []))
marked_more m os b h g = record { at = λ x. go x (eqb x b) refl }
  where
    go : (x : ℕ) (t : Bool) → eqb x b ≡ t → eqb (get_or (set m b 1) x 0) 0 ≡ not (has eqb x (os ++ (b ∷ [])))
    go x true e =
        let d : x ≡ b = eqb-true x b e in
        let one : get_or (set m b 1) x 0 ≡ 1 = rw d (get_or-set_same m b 1 0 h) in
        rw (one, has-snoc x b os, e) (sym (ap not (or-true (has eqb x os))))
    go x false e =
        let other : get_or (set m b 1) x 0 ≡ get_or m x 0 = get_or-set_other m b x 1 0 (eqb-false x b e) in
        rw (other, has-snoc x b os, e) (g.at x ∙ sym (ap not (or-false (has eqb x os))))

-- no block stands twice
distinct-twice : (b : ℕ) (os cs : List ℕ) → has eqb b os ≡ true → distinct eqb (os ++ (b ∷ cs)) ≡ false
distinct-twice b os cs h =
    is_false _ (λ e. distinct_apart eqb eqb-true eqb-self os (b ∷ cs) e b (has-eqb-in b os h) (in-here b cs))

distinct-twice-left : (xs ys : List ℕ) → distinct eqb xs ≡ false → distinct eqb (xs ++ ys) ≡ false
distinct-twice-left xs ys h = is_false _ (λ e. true-not-false (distinct-left eqb eqb-true eqb-self xs ys e) h)

distinct_more : (b : ℕ) (os : List ℕ) → distinct eqb os ≡ true → has eqb b os ≡ false → distinct eqb (os ++ (b ∷ [])) ≡ true
distinct_more b os d h =
    distinct_append eqb eqb-true eqb-self os (b ∷ []) d refl
    (λ x m n. in-elim x b [] n (λ e. true-not-false (in-has-eqb b os (subst (λ (z : ℕ). In z os) e m)) h) (λ i. i))

-- a walk and its rule: it is right when the rule holds, and then the marks are those of os
pub record Tied (w : Walk) (good : Bool) (os : List ℕ) (size : ℕ) : Type 0 where
  pub ok : w.ok ≡ good
  pub marks : w.ok ≡ true → Marked w.marks os
  pub sized : length w.marks ≡ size

tied-false : (m : List ℕ) (good : Bool) (os : List ℕ) → good ≡ false → Tied (walked false m) good os (length m)
tied-false m good os e = record { ok = sym e; marks = λ z. absurd (false≢true z); sized = refl }

module _ (v : ℕ → ℕ) (n : ℕ) where
  pub walk-tied : (k b : ℕ) (m os : List ℕ) → n ≤ length m → Marked m os → distinct eqb os ≡ true
      → Tied (walk v n k b m) (ends_after v n b k && distinct eqb (os ++ chain v b k)) (os ++ chain v b k) (length m)
  unfolding walk ends_after chain
  walk-tied zero b m os h g d = record { ok = rw (append-nil os, d) (sym (and-true (eqb b 1))); marks = λ z. rw (append-nil os) g; sized = refl }
  walk-tied (suc k) b m os h g d = interval (in_volume n b) refl (walk-tied k (v b) (set m b 1) (os ++ (b ∷ [])))
    where
      Goal : Type 0
      Goal = Tied (walk v n (suc k) b m) (ends_after v n b (suc k) && distinct eqb (os ++ chain v b (suc k))) (os ++ chain v b (suc k)) (length m)

      Ih : Type 0
      Ih = n ≤ length (set m b 1) → Marked (set m b 1) (os ++ (b ∷ [])) → distinct eqb (os ++ (b ∷ [])) ≡ true
          → Tied (walk v n k (v b) (set m b 1)) (ends_after v n (v b) k && distinct eqb (os ++ (b ∷ []) ++ chain v (v b) k))
          (os ++ (b ∷ []) ++ chain v (v b) k) (length (set m b 1))

      fresh : (t : Bool) → has eqb b os ≡ t → in_volume n b ≡ true → Ih → Goal
      fresh true e i r =
          let z : eqb (get_or m b 0) 0 ≡ false = g.at b ∙ rw e in
          rw (i, z, distinct-twice b os (chain v (v b) k) e)
          (tied-false m (ends_after v n (v b) k && false) (os ++ (b ∷ chain v (v b) k)) (and-false (ends_after v n (v b) k)))
      fresh false e i r =
          let z : eqb (get_or m b 0) 0 ≡ true = g.at b ∙ rw e in
          let u : b < n = in_volume-below n b i in
          let l : length (set m b 1) ≡ length m = length-set m b 1 in
          rw (i, z) (rw (append_snoc os b (chain v (v b) k), l) at (r (omega arith) (marked_more m os b (omega arith) g) (distinct_more b os d e)))

      interval : (t : Bool) → in_volume n b ≡ t → Ih → Goal
      interval true e r = fresh (has eqb b os) refl e r
      interval false e r = rw e (tied-false m false (os ++ (b ∷ chain v (v b) k)) refl)

  pub follow-tied : (k b : ℕ) (m os : List ℕ) → n ≤ length m → Marked m os → distinct eqb os ≡ true
      → Tied (follow v n k b m) (chain_ok v n b k && distinct eqb (os ++ chain v b k)) (os ++ chain v b k) (length m)
  unfolding follow chain_ok chain
  follow-tied zero b m os h g d = record { ok = rw (append-nil os, d); marks = λ z. rw (append-nil os) g; sized = refl }
  follow-tied (suc k) b m os h g d = walk-tied (suc k) b m os h g d

  pub follow_all-tied : (cs : List (ℕ × ℕ)) (m os : List ℕ) → n ≤ length m → Marked m os → distinct eqb os ≡ true
      → Tied (follow_all v n cs m) (every (λ c. chain_ok v n c.0 c.1) cs && distinct eqb (os ++ owned v cs)) (os ++ owned v cs) (length m)
  unfolding follow_all owned
  follow_all-tied [] m os h g d = record { ok = rw (append-nil os, d); marks = λ z. rw (append-nil os) g; sized = refl }
  follow_all-tied (c ∷ cs) m os h g d =
      go (follow v n c.1 c.0 m).ok refl (follow_all-tied cs (follow v n c.1 c.0 m).marks (os ++ chain v c.0 c.1))
    where
      w : Walk
      w = follow v n c.1 c.0 m

      ch : List ℕ
      ch = chain v c.0 c.1

      tied : Tied w (chain_ok v n c.0 c.1 && distinct eqb (os ++ ch)) (os ++ ch) (length m)
      tied = follow-tied c.1 c.0 m os h g d

      all : Bool
      all = every (λ c. chain_ok v n c.0 c.1) cs

      rest : List ℕ
      rest = joined (λ c. chain v c.0 c.1) cs

      none : (a p q : Bool) → a && p ≡ false → (p ≡ false → q ≡ false) → (a && all) && q ≡ false
      none true true q z f = absurd (false≢true (sym z))
      none true false q z f = rw (f refl) (and-false all)
      none false p q z f = refl

      go : (t : Bool) → (follow v n c.1 c.0 m).ok ≡ t
          → (n ≤ length (follow v n c.1 c.0 m).marks → Marked (follow v n c.1 c.0 m).marks (os ++ ch) → distinct eqb (os ++ ch) ≡ true
          → Tied (follow_all v n cs (follow v n c.1 c.0 m).marks) (all && distinct eqb (os ++ ch ++ rest)) (os ++ ch ++ rest)
          (length (follow v n c.1 c.0 m).marks))
          → Tied (cond (follow v n c.1 c.0 m).ok (follow_all v n cs (follow v n c.1 c.0 m).marks) (follow v n c.1 c.0 m))
          ((chain_ok v n c.0 c.1 && all) && distinct eqb (os ++ (ch ++ rest))) (os ++ (ch ++ rest)) (length m)
      go true e r =
          let p = and_split (chain_ok v n c.0 c.1) (distinct eqb (os ++ ch)) (sym tied.ok ∙ e) in
          let l : length w.marks ≡ length m = tied.sized in
          rw (e, p.0) (rw (append_assoc os ch rest, l) at (r (omega arith) (tied.marks e) p.1))
      go false e r =
          rw e
          record {
            ok = sym (none (chain_ok v n c.0 c.1) (distinct eqb (os ++ ch)) (distinct eqb (os ++ (ch ++ rest))) (sym tied.ok ∙ e)
                (λ z. rw (← append_assoc os ch rest) (distinct-twice-left (os ++ ch) rest z)));
            marks = λ z. absurd (false≢true z);
            sized = tied.sized;
          }
