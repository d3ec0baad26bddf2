-- The first question, slot by slot.
use Prim.Native.Nat.{ℕ, zero, suc, ◌+◌, ◌-◌, ◌*◌, ◌/◌, ◌≤◌, ◌<◌}
use mathlib.Core.Bool.{Bool, true, false, not, ◌||◌, cond}
use mathlib.Core.List.{List, [], ◌∷◌}
use mathlib.Core.Path.{◌≡◌, refl, sym, ap, ◌∙◌}
use native.Mathlib.Omega.{arith}
use lib.Dec.{eqb}
use lib.ListN.{length}
use Rattle.layout.specs.Lists.{interval}
use Rattle.layout.specs.Geometry.{root_block}
use Rattle.layout.specs.Limits.{max_levels}
use Rattle.layout.specs.Table.{next}
use Rattle.layout.specs.Directory.{slot_at, type_of, first_block, blocks_of, is_directory, directory}
use Rattle.layout.proofs.Laws.Chains.{chain-suc, chain-none}
use Rattle.layout.proofs.Laws.Tests.{true-not-false}
use Rattle.layout.proofs.Laws.Trees.{length-directory}
use borrow.Author.Tests.{eq-eqb, ne_eqb, eqb-false, not-false}
use Rattle.plain_check.specs.Plain.{one, holds, directory_holds, Count, count, meet_slots, meet, held_before}
use Rattle.plain_check.specs.Walks.{Volume, new_from}
use Rattle.plain_check.proofs.Walks.Slots.{slots-none, slots_next, slots-first}
use Rattle.plain_check.proofs.Walks.Tests.{or-split-false}

-- the walk below the entry at e
abbrev pub down : ℕ → List ℕ → ℕ → ℕ → Count → Count
down zero s b e c = c
down (suc levels) s b e c = meet levels s b (first_block s e) c

-- where no child is gone into, nothing is counted
idle : (s ds ks : List ℕ) (c : Count) → meet_slots (λ e c. c) s ds ks c ≡ c
unfolding meet_slots
idle s ds [] c = refl
idle s ds (k ∷ ks) c = ap (meet_slots (λ e c. c) s ds ks) (both (is_directory (type_of s (slot_at ds k)))) ∙ idle s ds ks c
  where
    both : (t : Bool) → cond t c c ≡ c
    both true = refl
    both false = refl

meet-none : (levels : ℕ) (s : List ℕ) (b d held : ℕ) → meet levels s b d (count 0 held) ≡ count 0 held
unfolding meet
meet-none zero s b d held = refl
meet-none (suc levels) s b d held = refl

module _ (s : List ℕ) (b d size x end : ℕ) (es : size ≡ blocks_of s (512 * d)) (ex : x ≡ one (holds (next s) b d size)) (ee : end ≡ 4 * size) where
  pub meet-start : (levels still held : ℕ) → 1 ≤ still
      → meet levels s b d (count still held) ≡ meet_slots (down levels s b) s (directory s d) (interval (2 - 1) (end - 2)) (count (still - 1) (held + x))
  unfolding meet directory_holds
  meet-start levels zero held h = absurd (omega arith)
  meet-start levels (suc still) held h =
      let q : suc still - 1 ≡ still = omega arith in
      rw (q, ← slots-first size end ee) (go levels)
    where
      go : (levels : ℕ) → meet levels s b d (count (suc still) held) ≡ meet_slots (down levels s b) s (directory s d) (interval 1 (4 * size - 2)) (count still (held + x))
      go zero = rw (ex, es) (sym (idle s (directory s d) (interval 1 (4 * blocks_of s (512 * d) - 2)) (count still (held + one (holds (next s) b d (blocks_of s (512 * d)))))))
      go (suc levels) = rw (ex, es, length-directory s d)

module _ (s ds : List ℕ) (b levels k end more held : ℕ) where
  pub meet-end : end ≤ k → count more held ≡ meet_slots (down levels s b) s ds (interval (k - 1) (end - k)) (count more held)
  unfolding meet_slots
  meet-end h = rw (slots-none k end h)

  module _ (l : 2 ≤ k) (h : k < end) (e type : ℕ) (at : e ≡ slot_at ds (k - 1)) (et : type ≡ type_of s e) where
    step : meet_slots (down levels s b) s ds (interval (k - 1) (end - k)) (count more held)
        ≡ meet_slots (down levels s b) s ds (interval (k + 1 - 1) (end - (k + 1))) (cond (is_directory (type_of s (slot_at ds (k - 1)))) (down levels s b (slot_at ds (k - 1)) (count more held)) (count more held))
    unfolding meet_slots
    step = ap (λ (ks : List ℕ). meet_slots (down levels s b) s ds ks (count more held)) (slots_next k end l h)

    turn : (c : Count) → cond (is_directory type) (down levels s b e (count more held)) (count more held) ≡ c
        → meet_slots (down levels s b) s ds (interval (k - 1) (end - k)) (count more held) ≡ meet_slots (down levels s b) s ds (interval (k + 1 - 1) (end - (k + 1))) c
    turn c q = step ∙ ap (meet_slots (down levels s b) s ds (interval (k + 1 - 1) (end - (k + 1)))) z
      where
        z : cond (is_directory (type_of s (slot_at ds (k - 1)))) (down levels s b (slot_at ds (k - 1)) (count more held)) (count more held) ≡ c
        z = rw (← at, ← et) q

    pub meet-skip : (t : Bool) → t ≡ is_directory type → ((eqb levels 0 || eqb more 0) || not t) ≡ true
        → meet_slots (down levels s b) s ds (interval (k - 1) (end - k)) (count more held) ≡ meet_slots (down levels s b) s ds (interval (k + 1 - 1) (end - (k + 1))) (count more held)
    meet-skip t et q = turn (count more held) (rw (← et) (go t levels more q))
      where
        go : (t : Bool) (levels more : ℕ) → ((eqb levels 0 || eqb more 0) || not t) ≡ true → cond t (down levels s b e (count more held)) (count more held) ≡ count more held
        go false levels more q = refl
        go true zero more q = refl
        go true (suc levels) zero q = meet-none levels s b (first_block s e) held
        go true (suc levels) (suc more) q = absurd (true-not-false q (rw (ne_eqb (suc levels) 0 (λ w. omega arith), ne_eqb (suc more) 0 (λ w. omega arith))))

    pub meet-child : (t : Bool) → t ≡ is_directory type → t ≡ true → (levels ≡ 0 → ⊥) → (first : ℕ) → first ≡ first_block s e → (c : Count) → c ≡ meet (levels - 1) s b first (count more held)
        → meet_slots (down levels s b) s ds (interval (k - 1) (end - k)) (count more held) ≡ meet_slots (down levels s b) s ds (interval (k + 1 - 1) (end - (k + 1))) c
    meet-child t et e₁ z first ef c q = turn c (rw (← et, e₁, q, ef) (go levels z))
      where
        go : (levels : ℕ) → (levels ≡ 0 → ⊥) → down levels s b e (count more held) ≡ meet (levels - 1) s b (first_block s e) (count more held)
        go zero z = absurd (z refl)
        go (suc levels) z = let p : suc levels - 1 ≡ levels = omega arith in rw p

-- what the test before a child tells where it is left
pub goes_down : (levels more : ℕ) (t : Bool) → ((eqb levels 0 || eqb more 0) || not t) ≡ false → (levels ≡ 0 → ⊥) × (more ≡ 0 → ⊥) × (t ≡ true)
goes_down levels more t e =
    let a = or-split-false (eqb levels 0 || eqb more 0) (not t) e in
    let b = or-split-false (eqb levels 0) (eqb more 0) a.0 in
    (eqb-false _ _ b.0, eqb-false _ _ b.1, not-false _ a.1)

-- from the root
pub held-before : (s : List ℕ) (n c b root more held : ℕ) → Volume s n → root ≡ root_block n → count more held ≡ meet max_levels s b root (count c 0)
    → held ≡ held_before s c b
unfolding held_before
held-before s n c b root more held v er e =
    let z : length s / 512 ≡ n = omega arith in
    rw (z, ← er, ← e)

-- the blocks of a chain, one by one
module _ (s : List ℕ) (c at k i : ℕ) where
  pub new-end : k ≤ i → true ≡ new_from s c at (k - i)
  unfolding new_from
  new-end h = rw (chain-none (next s) at (k - i) (omega arith))

  module _ (h : i < k) (held : ℕ) (eh : held ≡ held_before s c at) where
    pub new-stop : (held ≡ 0 → ⊥) → new_from s c at (k - i) ≡ false
    unfolding new_from
    new-stop z = rw (chain-suc (next s) at (k - i) (omega arith), ← eh, ne_eqb held 0 z)

    pub new-next : held ≡ 0 → (at₂ : ℕ) → at₂ ≡ next s at → new_from s c at (k - i) ≡ new_from s c at₂ (k - (i + 1))
    unfolding new_from
    new-next z at₂ q =
        let p : k - i - 1 ≡ k - (i + 1) = omega arith in
        rw (chain-suc (next s) at (k - i) (omega arith), ← eh, eq-eqb held 0 z, q, p)
