-- The second question, slot by slot.
use Prim.Native.Nat.{ℕ, zero, suc, ◌+◌, ◌-◌, ◌*◌, ◌≤◌, ◌<◌}
use mathlib.Core.Bool.{Bool, true, false, not, ◌||◌, cond}
use mathlib.Core.List.{List}
use mathlib.Core.Logic.{◌⊎◌, inl, inr}
use mathlib.Core.Path.{◌≡◌, refl, ap, ◌∙◌}
use native.Mathlib.Omega.{arith}
use lib.Dec.{eqb}
use borrow.Author.Tests.{ne_eqb, eqb-false, not-false}
use Rattle.layout.specs.Lists.{interval}
use Rattle.layout.specs.Directory.{slot_at, type_of, first_block, blocks_of, is_directory, directory}
use Rattle.layout.proofs.Laws.Tests.{true-not-false}
use Rattle.layout.proofs.Laws.Trees.{length-directory}
use Rattle.plain_check.specs.Plain.{Question}
use Rattle.plain_check.specs.Plain.{total, ask_slot, ask_directory, ask_tree, answer}
use Rattle.plain_check.specs.Walks.{file_answer, Upto}
use Rattle.plain_check.proofs.Walks.Slots.{slots-none, slots_next, slots-first}
use Rattle.plain_check.proofs.Walks.Tests.{or-split-false}

-- what was asked for, T, is the sum so far and what is left, or both are above the most
abbrev pub Sofar : ℕ → ℕ → ℕ → ℕ → Type 0
Sofar most T sum rest = (T ≡ sum + rest) ⊎ ((most < sum) × (most < T))

module _ (most T sum rest : ℕ) where
  pub sofar-over : Sofar most T sum rest → most < sum → Upto most sum T
  sofar-over (inl e) h = inr (h, omega arith)
  sofar-over (inr w) h = inr w

  pub sofar-end : Sofar most T sum rest → rest ≡ 0 → Upto most sum T
  sofar-end (inl e) z = inl (omega arith)
  sofar-end (inr w) z = inr w

  pub sofar-more : Sofar most T sum rest → sum ≤ most → (a after : ℕ) → rest ≡ a + after → Sofar most T (sum + a) after
  sofar-more (inl e) h a after q = inl (omega arith)
  sofar-more (inr w) h a after q = absurd (omega arith)

  pub sofar-down : Sofar most T sum rest → sum ≤ most → (a c r after : ℕ) → rest ≡ a + c + after → Upto most r (sum + a + c) → Sofar most T r after
  sofar-down (inl e) h a c r after q (inl u) = inl (omega arith)
  sofar-down (inl e) h a c r after q (inr u) = inr (u.0, omega arith)
  sofar-down (inr w) h a c r after q u = absurd (omega arith)

-- what the child of an entry answers, with `levels` levels left
abbrev pub deeper : (ℕ → ℕ → ℕ) → ℕ → List ℕ → ℕ → ℕ
deeper ask zero s e = 0
deeper ask (suc levels) s e = ask_tree ask levels s (first_block s e)

module _ (question : Question) (s : List ℕ) (n d levels : ℕ) where
  abbrev pub rest : ℕ → ℕ → ℕ
  rest k end = total (λ k. ask_slot (answer question s n) (deeper (answer question s n) levels s) s (slot_at (directory s d) k)) (interval (k - 1) (end - k))

  tree_is : (levels : ℕ) → ask_tree (answer question s n) levels s d
      ≡ answer question s n d (blocks_of s (512 * d)) + total (λ k. ask_slot (answer question s n) (deeper (answer question s n) levels s) s (slot_at (directory s d) k)) (interval 1 (4 * blocks_of s (512 * d) - 2))
  unfolding ask_tree ask_directory
  tree_is zero = rw (length-directory s d)
  tree_is (suc levels) = rw (length-directory s d)

  pub tally-start : (size x end before : ℕ) → size ≡ blocks_of s (512 * d) → x ≡ answer question s n d size → end ≡ 4 * size
      → before + ask_tree (answer question s n) levels s d ≡ before + x + rest 2 end
  tally-start size x end before es ex ee = rw (← slots-first size end ee, ex, es) (omega (arith, tree_is levels))

  pub rest_end : (k end : ℕ) → end ≤ k → rest k end ≡ 0
  rest_end k end h = ap (λ (ks : List ℕ). total (λ k. ask_slot (answer question s n) (deeper (answer question s n) levels s) s (slot_at (directory s d) k)) ks) (slots-none k end h)

  module _ (k end : ℕ) (l : 2 ≤ k) (h : k < end) (e a kind : ℕ) (at : e ≡ slot_at (directory s d) (k - 1)) (ea : a ≡ file_answer question s n e) (ek : kind ≡ type_of s e) where
    turn : rest k end ≡ a + cond (is_directory kind) (deeper (answer question s n) levels s e) 0 + rest (k + 1) end
    unfolding ask_slot file_answer
    turn = ap (λ (ks : List ℕ). total (λ k. ask_slot (answer question s n) (deeper (answer question s n) levels s) s (slot_at (directory s d) k)) ks) (slots_next k end l h) ∙ rw (ea, ← at, ← ek)

    pub rest-skip : (t : Bool) → t ≡ is_directory kind → (eqb levels 0 || not t) ≡ true → rest k end ≡ a + rest (k + 1) end
    rest-skip t et q =
        let z : cond (is_directory kind) (deeper (answer question s n) levels s e) 0 ≡ 0 = rw (← et) (go t levels q) in
        omega (arith, turn)
      where
        go : (t : Bool) (levels : ℕ) → (eqb levels 0 || not t) ≡ true → cond t (deeper (answer question s n) levels s e) 0 ≡ 0
        go false levels q = refl
        go true zero q = refl
        go true (suc levels) q = absurd (true-not-false q (rw (ne_eqb (suc levels) 0 (λ w. omega arith))))

    pub rest-child : (t : Bool) → t ≡ is_directory kind → t ≡ true → (levels ≡ 0 → ⊥) → (b : ℕ) → b ≡ first_block s e
        → rest k end ≡ a + ask_tree (answer question s n) (levels - 1) s b + rest (k + 1) end
    rest-child t et e₁ l b eb =
        let q : cond (is_directory kind) (deeper (answer question s n) levels s e) 0 ≡ ask_tree (answer question s n) (levels - 1) s b =
        rw (← et, e₁, eb) (down levels l) in
        omega (arith, turn)
      where
        down : (levels : ℕ) → (levels ≡ 0 → ⊥) → deeper (answer question s n) levels s e ≡ ask_tree (answer question s n) (levels - 1) s (first_block s e)
        down zero l = absurd (l refl)
        down (suc levels) l = let q : suc levels - 1 ≡ levels = omega arith in rw q

-- what the test before a child tells where it is left
pub goes_down : (levels : ℕ) (t : Bool) → (eqb levels 0 || not t) ≡ false → (levels ≡ 0 → ⊥) × (t ≡ true)
goes_down levels t e =
    let a = or-split-false (eqb levels 0) (not t) e in
    (eqb-false _ _ a.0, not-false _ a.1)
