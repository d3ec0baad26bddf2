-- Chains whose blocks keep their values, and a chain that was walked and ended.
use Prim.Native.Nat.{ℕ, zero, suc, ◌+◌, ◌*◌, ◌≤◌}
use mathlib.Core.Bool.{Bool, true, false, not, ◌&&◌, cond}
use mathlib.Core.List.{List, [], ◌∷◌, ◌++◌}
use mathlib.Core.Logic.{◌⊎◌, inl, inr, ⊎_elim, ◌≢◌}
use mathlib.Core.Path.{◌≡◌, refl, sym, ap, ◌∙◌, subst}
use native.Mathlib.Omega.{arith}
use lib.Dec.{eqb}
use lib.ListN.{length}
use borrow.Author.Tests.{eq-eqb, eqb-true, not-true}
use Rattle.layout.specs.Lists.{every, has, distinct, last_or}
use Rattle.layout.specs.Geometry.{root_block, in_volume}
use Rattle.layout.specs.Table.{next, chain, ends_after, chain_ok}
use Rattle.layout.specs.Check.{owned}
use Rattle.layout.proofs.Laws.Tests.{and_split, and-join, or_split, is_false, true-not-false}
use Rattle.layout.proofs.Laws.Lists.{In, in_left, in_right, last-in, every_in, in-every, has-eqb-in, in-has-eqb, head_apart, tail-distinct, distinct_append}
use Rattle.layout.proofs.Laws.Tests.{eqb-self}
use Rattle.layout.proofs.Laws.Frames.{Same, set-next-length, set-next-same, set-next-at, set-next-other}
use Rattle.layout.proofs.Laws.Chains.{in_volume-split}
use Rattle.salvage.specs.Salvage.{claimable, ends, ended}

-- by cases of a test
pub by_cond : {A : Type 0} (P : A → Type 0) (b : Bool) (x y : A) → (b ≡ true → P x) → (b ≡ false → P y) → P (cond b x y)
by_cond P true x y f g = f refl
by_cond P false x y f g = g refl

-- chains along values that stay
module _ (v w : ℕ → ℕ) where
  pub chain-stays : (b k : ℕ) → ((x : ℕ) → In x (chain v b k) → w x ≡ v x) → chain w b k ≡ chain v b k
  unfolding chain
  chain-stays b zero f = refl
  chain-stays b (suc k) f = ap (λ (z : ℕ). b ∷ chain w z k) (f b (inl refl)) ∙ ap (λ (l : List ℕ). b ∷ l) (chain-stays (v b) k (λ x i. f x (inr i)))

  ends-stays : (n b k : ℕ) → ((x : ℕ) → In x (chain v b k) → w x ≡ v x) → ends_after w n b k ≡ ends_after v n b k
  unfolding chain ends_after
  ends-stays n b zero f = refl
  ends-stays n b (suc k) f =
      ap (λ (z : ℕ). in_volume n b && ends_after w n z k) (f b (inl refl)) ∙ ap (λ (t : Bool). in_volume n b && t) (ends-stays n (v b) k (λ x i. f x (inr i)))

  pub chain_ok-stays : (n b k : ℕ) → ((x : ℕ) → In x (chain v b k) → w x ≡ v x) → chain_ok w n b k ≡ chain_ok v n b k
  unfolding chain_ok
  chain_ok-stays n b zero f = refl
  chain_ok-stays n b (suc k) f = ends-stays n b (suc k) f

  pub owned-stays : (cs : List (ℕ × ℕ)) → ((x : ℕ) → In x (owned v cs) → w x ≡ v x) → owned w cs ≡ owned v cs
  unfolding owned
  owned-stays [] f = refl
  owned-stays (c ∷ cs) f =
      ap (λ (r : List ℕ). chain w c.0 c.1 ++ r) (owned-stays cs (λ x i. f x (in_right x (chain v c.0 c.1) (owned v cs) i)))
      ∙ ap (λ (r : List ℕ). r ++ owned v cs) (chain-stays c.0 c.1 (λ x i. f x (in_left x (chain v c.0 c.1) (owned v cs) i)))

  pub oks-stay : (n : ℕ) (cs : List (ℕ × ℕ)) → ((x : ℕ) → In x (owned v cs) → w x ≡ v x) → every (λ c. chain_ok w n c.0 c.1) cs ≡ every (λ c. chain_ok v n c.0 c.1) cs
  unfolding owned
  oks-stay n [] f = refl
  oks-stay n (c ∷ cs) f =
      ap (λ (t : Bool). chain_ok w n c.0 c.1 && t) (oks-stay n cs (λ x i. f x (in_right x (chain v c.0 c.1) (owned v cs) i)))
      ∙ ap (λ (t : Bool). t && every (λ c. chain_ok v n c.0 c.1) cs) (chain_ok-stays n c.0 c.1 (λ x i. f x (in_left x (chain v c.0 c.1) (owned v cs) i)))

-- the last of some blocks is one of them
pub last_of : (bs : List ℕ) → 1 ≤ length bs → In (last_or 0 bs) bs
last_of [] h = absurd (omega arith)
last_of (b ∷ bs) h = ⊎_elim (λ e. inl e) (λ i. inr i) (last-in bs b)

-- different blocks in the volume, the last of which has 1: all of it stays a chain, and is right, if the values of the others stay
module _ (v w : ℕ → ℕ) (n : ℕ) where
  walked-ends : (k b : ℕ) → every (in_volume n) (chain v b (suc k)) ≡ true → distinct eqb (chain v b (suc k)) ≡ true
      → ((x : ℕ) → In x (chain v b (suc k)) → x ≢ last_or 0 (chain v b (suc k)) → w x ≡ v x) → w (last_or 0 (chain v b (suc k))) ≡ 1
      → (chain w b (suc k) ≡ chain v b (suc k)) × (ends_after w n b (suc k) ≡ true)
  unfolding chain ends_after
  walked-ends zero b i d f e = (refl, and-join (and_split (in_volume n b) true i).0 (eq-eqb (w b) 1 e))
  walked-ends (suc j) b i d f e =
      let rest : List ℕ = chain v (v b) (suc j) in
      let a = and_split (in_volume n b) (every (in_volume n) rest) i in
      let l : In (last_or 0 rest) rest = last_of rest (omega arith) in
      let q : w b ≡ v b = f b (inl refl) (λ z. head_apart b rest d (subst (λ (x : ℕ). In x rest) (sym z) l)) in
      let r = walked-ends j (v b) a.1 (tail-distinct b rest d) (λ x m. f x (inr m)) e in (
        ap (λ (z : ℕ). b ∷ chain w z (suc j)) q ∙ ap (λ (z : List ℕ). b ∷ z) r.0,
        and-join a.0 (subst (λ (z : ℕ). ends_after w n z (suc j) ≡ true) (sym q) r.1),
      )

  pub walked : (b k : ℕ) → every (in_volume n) (chain v b k) ≡ true → distinct eqb (chain v b k) ≡ true
      → ((x : ℕ) → In x (chain v b k) → x ≢ last_or 0 (chain v b k) → w x ≡ v x) → (1 ≤ length (chain v b k) → w (last_or 0 (chain v b k)) ≡ 1)
      → (chain w b k ≡ chain v b k) × (chain_ok w n b k ≡ true)
  unfolding chain chain_ok
  walked b zero i d f e = (refl, refl)
  walked b (suc k) i d f e = walked-ends k b i d f (e (omega arith))

-- the test of a walk
pub record Claimable (n : ℕ) (cs bs : List ℕ) : Type 0 where
  pub inside : every (in_volume n) bs ≡ true
  pub once : distinct eqb bs ≡ true
  pub fresh : (x : ℕ) → In x cs → In x bs → ⊥

module _ (n : ℕ) (cs bs : List ℕ) where
  pub claimable-split : claimable n cs bs ≡ true → Claimable n cs bs
  unfolding claimable
  claimable-split e =
      let a = and_split (every (in_volume n) bs) _ e in
      let b = and_split (distinct eqb bs) _ a.1 in
      record {
        inside = a.0;
        once = b.0;
        fresh = λ x i j. true-not-false (in-has-eqb x cs i) (not-true _ (every_in (λ y. not (has eqb y cs)) bs x b.1 j));
      }

  pub claimable-join : Claimable n cs bs → claimable n cs bs ≡ true
  unfolding claimable
  claimable-join C =
      and-join C.inside (and-join C.once
      (in-every (λ y. not (has eqb y cs)) bs (λ x j. ap not (is_false (has eqb x cs) (λ h. C.fresh x (has-eqb-in x cs h) j)))))

  pub claimed-distinct : distinct eqb cs ≡ true → Claimable n cs bs → distinct eqb (cs ++ bs) ≡ true
  claimed-distinct d C = distinct_append eqb eqb-true eqb-self cs bs d C.once C.fresh

-- the last value set to 1 if it isn't
module _ (n : ℕ) (s bs : List ℕ) (len : length s ≡ 512 * n) (i : every (in_volume n) bs ≡ true) where
  some : ends s bs ≡ false → 1 ≤ length bs
  unfolding ends
  some e = go (length bs) refl
    where
      go : (k : ℕ) → length bs ≡ k → 1 ≤ length bs
      go zero q = absurd (true-not-false (rw q) e)
      go (suc k) q = omega arith

  fits : 1 ≤ length bs → 512 + 4 * last_or 0 bs + 4 ≤ length s
  fits h = let w = in_volume-split n (last_or 0 bs) (every_in (in_volume n) bs (last_or 0 bs) i (last_of bs h)) in omega arith

  pub ended-length : length (ended s bs) ≡ length s
  unfolding ended
  ended-length = by_cond (λ x. length x ≡ length s) (ends s bs) s _ (λ e. refl) (λ e. set-next-length s (last_or 0 bs) 1 (fits (some e)))

  pub ended_same : (a m : ℕ) → (a + m ≤ 512) ⊎ (512 * root_block n ≤ a) → Same s (ended s bs) a m
  unfolding ended
  ended_same a m h = by_cond (λ x. Same s x a m) (ends s bs) s _ (λ e j l. refl)
      (λ e. let w = in_volume-split n (last_or 0 bs) (every_in (in_volume n) bs (last_or 0 bs) i (last_of bs (some e))) in
      set-next-same s (last_or 0 bs) 1 (fits (some e)) a m (⊎_elim (λ x. inl (omega arith)) (λ x. inr (omega arith)) h))

  pub ended-other : (x : ℕ) → x ≢ last_or 0 bs → next (ended s bs) x ≡ next s x
  unfolding ended
  ended-other x ne = by_cond (λ t. next t x ≡ next s x) (ends s bs) s _ (λ e. refl) (λ e. set-next-other s (last_or 0 bs) 1 (fits (some e)) x ne)

  pub ended-out : (x : ℕ) → (In x bs → ⊥) → next (ended s bs) x ≡ next s x
  unfolding ended
  ended-out x out = by_cond (λ t. next t x ≡ next s x) (ends s bs) s _ (λ e. refl)
      (λ e. set-next-other s (last_or 0 bs) 1 (fits (some e)) x (λ q. out (subst (λ (z : ℕ). In z bs) (sym q) (last_of bs (some e)))))

  pub ended-last : 1 ≤ length bs → next (ended s bs) (last_or 0 bs) ≡ 1
  unfolding ended ends
  ended-last h = by_cond (λ t. next t (last_or 0 bs) ≡ 1) (ends s bs) s _
      (λ e. ⊎_elim (λ z. absurd (let q = eqb-true (length bs) 0 z in omega arith)) (λ z. eqb-true _ 1 z) (or_split (eqb (length bs) 0) _ e))
      (λ e. set-next-at s (last_or 0 bs) 1 (fits h) (omega arith))
