-- The first question: the walk from the root meets the directories of `dirs s` in their order, so it counts those of its front part.
use Prim.Native.Nat.{ℕ, zero, suc, ◌+◌}
use mathlib.Core.Bool.{Bool, true, false, not, ◌||◌, cond}
use mathlib.Core.List.{List, [], ◌∷◌, ◌++◌}
use mathlib.Core.Path.{◌≡◌, refl, sym, ap, ◌∙◌}
use native.Mathlib.Omega.{arith}
use lib.Dec.{eqb}
use lib.ListN.{length}
use borrow.Author.Tests.{ne_eqb}
use Rattle.layout.specs.Lists.{has, select, keep, joined}
use Rattle.layout.specs.Limits.{max_levels}
use Rattle.layout.specs.Directory.{slot_at, slots, type_of, first_block, is_directory, directory, root_of, children, below, dirs}
use Rattle.layout.proofs.Laws.Joins.{join-map}
use Rattle.layout.proofs.Laws.Visits.{blocks_in}
use Rattle.plain_check.specs.Plain.{one, total, directory_holds, Count, count, held_of, meet_one, meet_slots, meet, held_before}
use Rattle.plain_check.proofs.Laws.Chains.{directory-has, has-append}

abbrev pub Dir : Type 0
Dir = ℕ × ℕ

-- the same walk along a list of directories
run : List ℕ → ℕ → List Dir → Count → Count
run s b [] c = c
run s b (d ∷ l) c = run s b l (meet_one (directory_holds s b d.0) (λ x. x) c)

module _ (s : List ℕ) (b : ℕ) where
  run-append : (l m : List Dir) (c : Count) → run s b (l ++ m) c ≡ run s b m (run s b l c)
  unfolding run
  run-append [] m c = refl
  run-append (d ∷ l) m c = run-append l m (meet_one (directory_holds s b d.0) (λ x. x) c)

  run_none : (l : List Dir) (held : ℕ) → run s b l (count zero held) ≡ count zero held
  unfolding run
  run_none [] held = refl
  run_none (d ∷ l) held = run_none l held

  one-run : (h : Bool) (l : List Dir) (f : Count → Count) → ((c : Count) → f c ≡ run s b l c) → (c : Count) → meet_one h f c ≡ run s b l (meet_one h (λ x. x) c)
  one-run h l f e (count zero held) = sym (run_none l held)
  one-run h l f e (count (suc still) held) = e (count still (held + one h))

  slots-run : (ds : List ℕ) (child : ℕ → Count → Count) (D : ℕ → List Dir) → ((e : ℕ) (c : Count) → child e c ≡ run s b (D e) c) → (ks : List ℕ) (c : Count)
      → meet_slots child s ds ks c ≡ run s b (joined (λ k. D (slot_at ds k)) (select (λ k. is_directory (type_of s (slot_at ds k))) ks)) c
  unfolding meet_slots run
  slots-run ds child D law [] c = refl
  slots-run ds child D law (k ∷ ks) c = go (is_directory (type_of s (slot_at ds k))) (slots-run ds child D law ks)
    where
      rest : List ℕ
      rest = select (λ k. is_directory (type_of s (slot_at ds k))) ks

      go : (t : Bool) → ((c : Count) → meet_slots child s ds ks c ≡ run s b (joined (λ k. D (slot_at ds k)) rest) c)
          → meet_slots child s ds ks (cond t (child (slot_at ds k) c) c) ≡ run s b (joined (λ k. D (slot_at ds k)) (keep t k rest)) c
      go true ih =
          ih (child (slot_at ds k) c) ∙ ap (run s b (joined (λ k. D (slot_at ds k)) rest)) (law (slot_at ds k) c)
          ∙ sym (run-append (D (slot_at ds k)) (joined (λ k. D (slot_at ds k)) rest) c)
      go false ih = ih c

  meet-run : (left d : ℕ) (c : Count) → meet left s b d c ≡ run s b (below s left d) c
  unfolding meet below run children
  meet-run zero d c = refl
  meet-run (suc left) d c =
      let ds = directory s d in
      let sel = select (λ k. is_directory (type_of s (slot_at ds k))) (slots ds) in
      let D : ℕ → List Dir = λ e. below s left (first_block s e) in
      let law = slots-run ds (λ e. meet left s b (first_block s e)) D (λ e. meet-run left (first_block s e)) (slots ds) in
      one-run (directory_holds s b d) (joined (λ k. D (slot_at ds k)) sel) (meet_slots (λ e. meet left s b (first_block s e)) s ds (slots ds)) law c
      ∙ ap (λ (l : List Dir). run s b l (meet_one (directory_holds s b d) (λ x. x) c)) (sym (join-map D (slot_at ds) sel))

  -- along a front part of the list
  run-front : (l m : List Dir) (held : ℕ) → held_of (run s b (l ++ m) (count (length l) held)) ≡ held + total (λ d. one (directory_holds s b d.0)) l
  unfolding run
  run-front [] m held = ap held_of (run_none m held) ∙ omega arith
  run-front (d ∷ l) m held = run-front l m (held + one (directory_holds s b d.0)) ∙ omega arith

  before-front : (l m : List Dir) → dirs s ≡ l ++ m → held_before s (length l) b ≡ total (λ d. one (directory_holds s b d.0)) l
  unfolding held_before dirs
  before-front l m e =
      ap held_of (meet-run max_levels (root_of s) (count (length l) 0)) ∙ ap (λ (x : List Dir). held_of (run s b x (count (length l) 0))) e
      ∙ run-front l m 0 ∙ omega arith

  -- none of them holds the block exactly if it is none of their blocks
  none-held : (l : List Dir) → eqb (total (λ d. one (directory_holds s b d.0)) l) 0 ≡ not (has eqb b (joined (blocks_in s) l))
  none-held [] = refl
  none-held (d ∷ l) = rw (directory-has s b d.0, has-append b (directory s d.0) (joined (blocks_in s) l)) (go (has eqb b (directory s d.0)) (none-held l))
    where
      go : (t : Bool) → eqb (total (λ d. one (directory_holds s b d.0)) l) 0 ≡ not (has eqb b (joined (blocks_in s) l))
          → eqb (one t + total (λ d. one (directory_holds s b d.0)) l) 0 ≡ not (t || has eqb b (joined (blocks_in s) l))
      go true ih = ne_eqb (1 + total (λ d. one (directory_holds s b d.0)) l) 0 (λ e. omega arith)
      go false ih = let z : 0 + total (λ d. one (directory_holds s b d.0)) l ≡ total (λ d. one (directory_holds s b d.0)) l = omega arith in rw z ih

  pub before-none : (l m : List Dir) → dirs s ≡ l ++ m → eqb (held_before s (length l) b) 0 ≡ not (has eqb b (joined (blocks_in s) l))
  before-none l m e = ap (λ (x : ℕ). eqb x 0) (before-front l m e) ∙ none-held l
