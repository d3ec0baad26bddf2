-- A directory's slots, and the child of a slot.
use Prim.Native.Nat.{ℕ, suc, ◌+◌, ◌-◌, ◌*◌, ◌≤◌, ◌<◌}
use mathlib.Core.Bool.{Bool, true, false}
use mathlib.Core.List.{List}
use mathlib.Core.Path.{◌≡◌, refl, sym, ap, ◌∙◌, subst}
use native.Mathlib.Omega.{arith}
use lib.ListN.{length, get_or, take, drop}
use Rattle.layout.specs.Lists.{interval}
use Rattle.layout.specs.Bytes.{zeros, splice}
use Rattle.layout.specs.Directory.{slot_at, slots}
use Rattle.layout.proofs.Laws.Lists.{interval-from}
use Rattle.salvage.specs.Walks.{MarksOf}
use Rattle.salvage_tree.specs.SalvageTree.{State, coded, take_slot, take_slots, take_child}
use Rattle.salvage_tree.specs.Walks.{st, Reached, Ready, Own, EntryTaken, Entered, SlotDone, SlotsDone}
use Rattle.salvage_tree.proofs.Walks.Entries.{dropped-is, front}

reached-state : (q : State) (s m c : List ℕ) → Reached q s m c → st s q.claimed c ≡ q
reached-state q s m c R = rw (R.image, R.codes-are)

-- A SLOT
module _ (s ds : List ℕ) (k left : ℕ) (m codes : List ℕ) (r : Bool) (s₁ m₁ c₁ : List ℕ) (E : EntryTaken s ds k m codes r s₁ m₁ c₁) where
  pub slot-done : r ≡ false → SlotDone s ds k left m codes s₁ m₁ c₁
  slot-done z = record { reached = λ cs M. E.done z (take_child left (get_or ds 0 0)) cs M }

  module _ (z : r ≡ true) (e : ℕ) (ee : slot_at ds k ≡ e) where
    marks-are : (cs : List ℕ) → MarksOf m cs → MarksOf m₁ cs
    marks-are cs M = rw (E.same-marks z) M

    child-is : (child : State → ℕ → State) (cs : List ℕ) → take_slot child ds (st s cs codes) k ≡ child (st s₁ cs c₁) e
    child-is child cs = E.left z child cs ∙ rw (ee, E.same-image z, E.same_codes z)

    pub slot-deep : left ≡ 0 → (s' c' : List ℕ) → s' ≡ splice s₁ e (zeros 128) → c' ≡ coded c₁ e 2 → SlotDone s ds k left m codes s' m₁ c'
    unfolding take_child
    slot-deep l s' c' es ec =
        record { reached = λ cs M. subst (λ (q : State). Reached q s' m₁ c') (sym (child-is (take_child left (get_or ds 0 0)) cs ∙ rw l)) (dropped-is s₁ e 2 m₁ c₁ s' c' es ec cs (marks-are cs M)) }

    module _ (pos : 0 < left) (n : ℕ) (d : ℕ) (xs s₂ m₂ c₂ : List ℕ) (N : Entered s₁ n (get_or ds 0 0) e m₁ c₁ d xs s₂ m₂ c₂) where
      child-left : (cs : List ℕ) → take_slot (take_child left (get_or ds 0 0)) ds (st s cs codes) k ≡ take_child (suc (left - 1)) (get_or ds 0 0) (st s₁ cs c₁) e
      child-left cs = let q : suc (left - 1) ≡ left = omega arith in child-is (take_child left (get_or ds 0 0)) cs ∙ rw q

      pub slot-dropped : d ≡ 0 → SlotDone s ds k left m codes s₂ m₂ c₂
      slot-dropped l = record { reached = λ cs M. subst (λ (q : State). Reached q s₂ m₂ c₂) (sym (child-left cs)) (N.none l (left - 1) cs (marks-are cs M)) }

      pub slot-entered : 0 < d → (s' m' c' : List ℕ) → SlotsDone s₂ (take d xs) (left - 1) m₂ c₂ s' m' c' → SlotDone s ds k left m codes s' m' c'
      slot-entered l s' m' c' D =
          record {
            reached = λ cs M.
                let W = N.some l (left - 1) cs (marks-are cs M) in
                subst (λ (q : State). Reached q s' m' c') (sym (child-left cs ∙ W.2)) (D.reached W.0 W.1);
          }

pub entered-lent : {s : List ℕ} {n parent e : ℕ} {m codes : List ℕ} {d : ℕ} {xs s' m' c' : List ℕ} → Entered s n parent e m codes d xs s' m' c' → 0 < d → Own n (take (d - 0) (drop 0 xs))
entered-lent {d = d} {xs = xs} E h = subst (Own _) (sym (front d xs)) (E.own h)

-- ALL SLOTS, when those before k are done
pub record Slotting (s ds : List ℕ) (left : ℕ) (m codes s₁ m₁ c₁ : List ℕ) (k : ℕ) : Type 0 where
  pub long : length s₁ ≡ length s
  pub marked : length m₁ ≡ length m
  pub coded-all : length c₁ ≡ length codes
  pub is : (cs : List ℕ) → MarksOf m cs → (cs₁ : List ℕ) × MarksOf m₁ cs₁ × (take_slots (take_child left (get_or ds 0 0)) ds (st s cs codes) (slots ds) ≡ take_slots (take_child left (get_or ds 0 0)) ds (st s₁ cs₁ c₁) (interval k (4 * length ds - 1 - k)))

pub slotting-start : (s ds : List ℕ) (left : ℕ) (m codes : List ℕ) → Slotting s ds left m codes s m codes 1
slotting-start s ds left m codes =
    let q : 4 * length ds - 1 - 1 ≡ 4 * length ds - 2 = omega arith in
    record { long = refl; marked = refl; coded-all = refl; is = λ cs M. (cs, M, ap (λ (j : ℕ). take_slots (take_child left (get_or ds 0 0)) ds (st s cs codes) (interval 1 j)) (sym q)) }

slots_next : (child : State → ℕ → State) (ds : List ℕ) (p : State) (k e : ℕ) → k < e → take_slots child ds p (interval k (e - k)) ≡ take_slots child ds (take_slot child ds p k) (interval (k + 1) (e - (k + 1)))
unfolding take_slots
slots_next child ds p k e h = ap (take_slots child ds p) (interval-from e k h)

slots-none : (child : State → ℕ → State) (ds : List ℕ) (p : State) (k more : ℕ) → more ≡ 0 → take_slots child ds p (interval k more) ≡ p
unfolding take_slots
slots-none child ds p k more e = ap (λ (j : ℕ). take_slots child ds p (interval k j)) e

module _ {s ds : List ℕ} {left : ℕ} {m codes s₁ m₁ c₁ : List ℕ} {k : ℕ} (w : Slotting s ds left m codes s₁ m₁ c₁ k) where
  pub slotting-more : k < 4 * length ds - 1 → (s₂ m₂ c₂ : List ℕ) → length s₂ ≡ length s₁ → length m₂ ≡ length m₁ → length c₂ ≡ length c₁ → SlotDone s₁ ds k left m₁ c₁ s₂ m₂ c₂ → Slotting s ds left m codes s₂ m₂ c₂ (k + 1)
  slotting-more h s₂ m₂ c₂ ls lm lc D =
      record {
        long = ls ∙ w.long;
        marked = lm ∙ w.marked;
        coded-all = lc ∙ w.coded-all;
        is = λ cs M.
            let W = w.is cs M in
            let child = take_child left (get_or ds 0 0) in
            let R = D.reached W.0 W.1 in (
              (take_slot child ds (st s₁ W.0 c₁) k).claimed,
              R.marks,
              W.2 ∙ slots_next child ds (st s₁ W.0 c₁) k (4 * length ds - 1) h
                  ∙ ap (λ (q : State). take_slots child ds q (interval (k + 1) (4 * length ds - 1 - (k + 1)))) (sym (reached-state (take_slot child ds (st s₁ W.0 c₁) k) s₂ m₂ c₂ R)),
            );
      }

  pub slotting-end : 4 * length ds - 1 ≤ k → SlotsDone s ds left m codes s₁ m₁ c₁
  slotting-end h =
      record {
        reached = λ cs M.
            let W = w.is cs M in
            let child = take_child left (get_or ds 0 0) in
            let e : 4 * length ds - 1 - k ≡ 0 = omega arith in
            subst (λ (q : State). Reached q s₁ m₁ c₁) (sym (W.2 ∙ slots-none child ds (st s₁ W.0 c₁) k (4 * length ds - 1 - k) e)) (record { image = refl; marks = W.1; codes-are = refl });
      }

-- what a call keeps of an image with its marks and codes
pub ready-again : (s : List ℕ) (t n : ℕ) (m c s' m' c' : List ℕ) → Ready s t n m c → length s' ≡ length s → length m' ≡ length m → length c' ≡ length c → Ready s' t n m' c'
ready-again s t n m c s' m' c' R ls lm lc =
    let h = R.room.shape in
    record {
      room = record { shape = record { whole = ls ∙ h.whole; low = h.low; high = h.high }; table = R.room.table; marks = omega (arith, R.room.marks) };
      sized = lc ∙ R.sized;
    }
