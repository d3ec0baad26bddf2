-- THE ROOT, FROM A STATE TO A LATER ONE, and why a lost folder is not hung.
use Prim.Native.Nat.{ℕ, ◌-◌, ◌*◌, ◌≤◌}
use mathlib.Core.Bool.{false}
use mathlib.Core.List.{List}
use mathlib.Core.Logic.{◌⊎◌, inl, inr, ◌≢◌}
use mathlib.Core.Path.{◌≡◌, refl, ◌∙◌, subst}
use native.Mathlib.Decide.{ℕ_discrete}
use native.Mathlib.Omega.{arith}
use lib.ListN.{length}
use borrow.Author.Tests.{eq-eqb, eqb-true}
use Rattle.layout.specs.Lists.{lowest}
use Rattle.layout.specs.Directory.{slot_at, slots, type_of, is_free, name_of, free_slot, directory}
use Rattle.layout.proofs.Laws.Lists.{In, lowest-met, lowest-none}
use Rattle.salvage_tree.specs.SalvageTree.{State}
use Rattle.salvage_tree.specs.Claims.{name_new}
use Rattle.salvage_tree.proofs.Laws.Fine.{name-less}

-- WHAT STAYS OF THE ROOT: its blocks, its slots in use with their names, and what is claimed
pub record Onward (r : ℕ) (p q : State) : Type 0 where
  pub grows : (x : ℕ) → In x p.claimed → In x q.claimed
  pub blocks : directory q.image r ≡ directory p.image r
  pub used : (j : ℕ) → 1 ≤ j → j ≤ 4 * length (directory p.image r) - 2 → type_of p.image (slot_at (directory p.image r) j) ≢ 0
      → (type_of q.image (slot_at (directory p.image r) j) ≢ 0) × (name_of q.image (slot_at (directory p.image r) j) ≡ name_of p.image (slot_at (directory p.image r) j))

pub onward-none : (r : ℕ) (p : State) → Onward r p p
onward-none r p = record { grows = λ x i. i; blocks = refl; used = λ j h g y. (y, refl) }

pub onward_then : (r : ℕ) (p q w : State) → Onward r p q → Onward r q w → Onward r p w
onward_then r p q w F G =
    let U : (j : ℕ) → 1 ≤ j → j ≤ 4 * length (directory p.image r) - 2 → type_of q.image (slot_at (directory p.image r) j) ≢ 0
    → (type_of w.image (slot_at (directory p.image r) j) ≢ 0) × (name_of w.image (slot_at (directory p.image r) j) ≡ name_of q.image (slot_at (directory p.image r) j)) =
    subst (λ (dd : List ℕ). (j : ℕ) → 1 ≤ j → j ≤ 4 * length dd - 2 → type_of q.image (slot_at dd j) ≢ 0 → (type_of w.image (slot_at dd j) ≢ 0) × (name_of w.image (slot_at dd j) ≡ name_of q.image (slot_at dd j))) F.blocks G.used in
    record {
      grows = λ x i. G.grows x (F.grows x i);
      blocks = G.blocks ∙ F.blocks;
      used = λ j h g y.
          let a = F.used j h g y in
          let b = U j h g a.0 in
          (b.0, b.1 ∙ a.1);
    }

-- why a lost folder is not hung: its block is claimed, its name is one of the root's, or the root is full
abbrev pub Excused : ℕ → State → ℕ → List ℕ → Type 0
Excused r p b name =
    In b p.claimed ⊎ ((name_new p.image (directory p.image r) (4 * length (directory p.image r) - 1) name ≡ false) ⊎ (free_slot p.image (directory p.image r) ≡ 0))

pub excused-onward : (r : ℕ) (p q : State) (b : ℕ) (name : List ℕ) → Onward r p q → Excused r p b name → Excused r q b name
unfolding free_slot
excused-onward r p q b name W (inl i) = inl (W.grows b i)
excused-onward r p q b name W (inr (inl z)) =
    inr (inl (rw W.blocks (name-less p.image q.image (directory p.image r) (4 * length (directory p.image r) - 1) name (λ j h g y. W.used j h (omega arith) y) z)))
excused-onward r p q b name W (inr (inr z)) =
    inr (inr (rw W.blocks (go (ℕ_discrete (lowest (λ k. is_free (type_of q.image (slot_at (directory p.image r) k))) (slots (directory p.image r))) 0))))
  where
    go : Dec (lowest (λ k. is_free (type_of q.image (slot_at (directory p.image r) k))) (slots (directory p.image r)) ≡ 0)
        → lowest (λ k. is_free (type_of q.image (slot_at (directory p.image r) k))) (slots (directory p.image r)) ≡ 0
    go (yes y) = y
    go (no y) =
        let dd = directory p.image r in
        let m = lowest-met (λ k. is_free (type_of q.image (slot_at dd k))) 1 (4 * length dd - 2) y in
        let j = lowest (λ k. is_free (type_of q.image (slot_at dd k))) (slots dd) in
        let u : type_of p.image (slot_at dd j) ≢ 0 = λ v. lowest-none (λ k. is_free (type_of p.image (slot_at dd k))) 1 (4 * length dd - 2) (omega arith) z j m.0 m.1 (eq-eqb _ 0 v) in
        absurd ((W.used j m.0 (omega (arith, m.0, m.1)) u).0 (eqb-true _ 0 m.2))
