-- Stages 4 and 5: the tour and the first check's visit go the same way through the tree, on every image. The directories met before are a front part
-- of `dirs s`: the visit carries their blocks, the tour their number.
use Prim.Native.Nat.{ℕ, zero, suc, ◌-◌, ◌*◌, ◌≤◌, ◌<◌}
use mathlib.Core.Bool.{Bool, true, false, not, ◌&&◌, cond}
use mathlib.Core.List.{List, [], ◌∷◌, ◌++◌, append_assoc, append-nil}
use mathlib.Core.Logic.{◌⊎◌, inl, inr, ⊎_elim}
use mathlib.Core.Path.{◌≡◌, refl, sym, ap, ◌∙◌, subst}
use native.Mathlib.Omega.{arith}
use lib.Dec.{eqb, ltb}
use lib.ListN.{length, length-append}
use borrow.Author.Tests.{eqb-true, not-true, lt-ltb}
use Rattle.layout.specs.Lists.{every, has, distinct, select, keep, joined, within}
use Rattle.layout.specs.Table.{next, chain_ok}
use Rattle.layout.specs.Limits.{min_blocks, max_levels, max_directory}
use Rattle.layout.specs.Geometry.{block_count}
use Rattle.layout.specs.Directory.{slot_at, slots, type_of, first_block, blocks_of, self_of, parent_of, is_directory, directory, root_of, children, below, dirs}
use Rattle.layout.specs.Check.{directory_ok, child_ok, slot_ok, new_name, Visit, fault4, fault5, met, needs, and_then, visit_slots, visit_entries, visit_child, visit_root, fault_of}
use Rattle.layout.proofs.Laws.Tests.{and_split, and-join, within-split, true-not-false, eqb-self}
use Rattle.layout.proofs.Laws.Lists.{In, in-append, every-same, every_in, in-every, in-has-eqb, distinct_append}
use Rattle.layout.proofs.Laws.Joins.{join-map, join-append, of-join}
use Rattle.layout.proofs.Laws.Chains.{length-chain, chain-below}
use Rattle.layout.proofs.Laws.Counts.{occupied-most}
use Rattle.layout.proofs.Laws.Visits.{blocks_in, under, below-is, directory_ok-distinct, child_ok-directory}
use Rattle.plain_check.specs.Plain.{held_before, plain_child_ok, one, Tour, stop4, stop5, up_to, asks, goes_on, tour_slots, tour_entries, tour_child, tour_root, stop_of}
use Rattle.plain_check.proofs.Laws.Chains.{directory-ok, child-ok, both_ways}
use Rattle.plain_check.proofs.Laws.Holders.{distinct-most}
use Rattle.plain_check.proofs.Laws.Before.{Dir, before-none}

-- directories that have met stage 4, and that have no block twice
record Right (s : List ℕ) (n : ℕ) (l : List Dir) : Type 0 where
  each : (d : Dir) → In d l → (p : ℕ) × (directory_ok s n d.0 p ≡ true)
  apart : distinct eqb (joined (blocks_in s) l) ≡ true

right-none : (s : List ℕ) (n : ℕ) → Right s n []
right-none s n = record { each = λ d i. absurd i; apart = refl }

met-more : (s : List ℕ) (b left : ℕ) (l : List Dir) → joined (blocks_in s) (l ++ ((b, left) ∷ [])) ≡ joined (blocks_in s) l ++ directory s b
met-more s b left l = join-append (blocks_in s) l ((b, left) ∷ []) ∙ ap (λ (x : List ℕ). joined (blocks_in s) l ++ x) (append-nil (directory s b))

right-more : (s : List ℕ) (n : ℕ) (l : List Dir) (b left p : ℕ) → Right s n l → directory_ok s n b p ≡ true
    → every (λ x. not (has eqb x (joined (blocks_in s) l))) (directory s b) ≡ true → Right s n (l ++ ((b, left) ∷ []))
right-more s n l b left p r ok new =
    record {
      each = λ d i. ⊎_elim (λ j. r.each d j) (λ j. last d j) (in-append d l ((b, left) ∷ []) i);
      apart = rw (met-more s b left l) (distinct_append eqb eqb-true eqb-self (joined (blocks_in s) l) (directory s b) r.apart (directory_ok-distinct s n b p ok)
          (λ x i j. true-not-false (in-has-eqb x (joined (blocks_in s) l) i) (not-true _ (every_in (λ y. not (has eqb y (joined (blocks_in s) l))) (directory s b) x new j))));
    }
  where
    last : (d : Dir) → In d ((b, left) ∷ []) → (q : ℕ) × (directory_ok s n d.0 q ≡ true)
    last d (inr x') = elim x' [ ]
    last d (inl e) = (p, subst (λ (x : Dir). directory_ok s n x.0 p ≡ true) (sym e) ok)

-- the directories met are at most n: each has a block of its own
directory-some : (s : List ℕ) (n b p : ℕ) → directory_ok s n b p ≡ true → (1 ≤ length (directory s b)) × ((x : ℕ) → In x (directory s b) → x < n)
unfolding directory_ok directory
directory-some s n b p e =
    let a₁ = and_split (eqb (type_of s (512 * b)) 1) _ e in
    let a₂ = and_split (eqb (self_of s (512 * b)) b) _ a₁.1 in
    let a₃ = and_split (eqb (parent_of s (512 * b)) p) _ a₂.1 in
    let a₄ = and_split (within 1 max_directory (blocks_of s (512 * b))) _ a₃.1 in
    let a₅ = and_split (chain_ok (next s) n b (blocks_of s (512 * b))) _ a₄.1 in
    let w = within-split 1 max_directory (blocks_of s (512 * b)) a₄.0 in
    (omega (arith, length-chain (next s) b (blocks_of s (512 * b))), λ x i. chain-below (next s) n b (blocks_of s (512 * b)) x a₅.0 i)

blocks-least : (s : List ℕ) (l : List Dir) → ((d : Dir) → In d l → 1 ≤ length (directory s d.0)) → length l ≤ length (joined (blocks_in s) l)
blocks-least s [] f = omega arith
blocks-least s (d ∷ l) f = omega (arith, length-append (directory s d.0) (joined (blocks_in s) l), f d (inl refl), blocks-least s l (λ x i. f x (inr i)))

right-most : (s : List ℕ) (n : ℕ) (l : List Dir) → Right s n l → length l ≤ n
right-most s n l r =
    let bs = joined (blocks_in s) l in
    let some : (d : Dir) → In d l → 1 ≤ length (directory s d.0) = λ d i. let w = r.each d i in (directory-some s n d.0 w.0 w.1).0 in
    let low : (x : ℕ) → In x bs → x < n =
    λ x i. let j = of-join (blocks_in s) l x i in let w = r.each j.0 j.1 in (directory-some s n j.0.0 w.0 w.1).1 x j.2 in
    omega (arith, blocks-least s l some, distinct-most n bs r.apart low, occupied-most (λ b. one (has eqb b bs)) n)

-- the same fault, or both have met the directories l
abbrev Tied : List ℕ → ℕ → List Dir → Visit → Tour → Type 0
Tied s n l v w = ((v ≡ fault4) × (w ≡ stop4)) ⊎ (((v ≡ fault5) × (w ≡ stop5)) ⊎ ((v ≡ met (joined (blocks_in s) l)) × (w ≡ up_to (length l)) × Right s n l))

module _ (s : List ℕ) (n : ℕ) where
  tied-asks : (l : List Dir) (t : Bool) (f v : Visit) (g w : Tour) → Tied s n l f g → (t ≡ true → Tied s n l v w) → Tied s n l (needs t f v) (asks t g w)
  tied-asks l true f v g w a b = b refl
  tied-asks l false f v g w a b = a

  tied_then : (l m : List Dir) (v : Visit) (w : Tour) (f : List ℕ → Visit) (g : ℕ → Tour) → Tied s n l v w → (Right s n l → Tied s n m (f (joined (blocks_in s) l)) (g (length l)))
      → Tied s n m (and_then v f) (goes_on w g)
  tied_then l m v w f g (inl a) b = rw (a.0, a.1) (inl (refl, refl))
  tied_then l m v w f g (inr (inl a)) b = rw (a.0, a.1) (inr (inl (refl, refl)))
  tied_then l m v w f g (inr (inr a)) b = rw (a.0, a.1) (b a.2)

  four : (l : List Dir) → Tied s n l fault4 stop4
  four l = inl (refl, refl)

  five : (l : List Dir) → Tied s n l fault5 stop5
  five l = inr (inl (refl, refl))

  on : (l : List Dir) → Right s n l → Tied s n l (met (joined (blocks_in s) l)) (up_to (length l))
  on l r = inr (inr (refl, refl, r))

  tied-fault : (l : List Dir) (v : Visit) (w : Tour) → Tied s n l v w → stop_of w ≡ fault_of v
  tied-fault l v w (inl a) = rw (a.0, a.1)
  tied-fault l v w (inr (inl a)) = rw (a.0, a.1)
  tied-fault l v w (inr (inr a)) = rw (a.0, a.1)

  -- the slots of the directory ds, where the child of the entry at e brings the directories D e
  module _ (ds : List ℕ) (visit : ℕ → List ℕ → Visit) (tour : ℕ → ℕ → Tour) (D : ℕ → List Dir)
      (law : (e : ℕ) (l m : List Dir) → Right s n l → dirs s ≡ l ++ (D e ++ m) → Tied s n (l ++ D e) (visit e (joined (blocks_in s) l)) (tour e (length l)))
    where
      abbrev dir_at : ℕ → Bool
      dir_at k = is_directory (type_of s (slot_at ds k))

      abbrev brought : List ℕ → List Dir
      brought ks = joined (λ k. D (slot_at ds k)) ks

      tied-slots : (ks : List ℕ) (l m : List Dir) → Right s n l → dirs s ≡ l ++ (brought (select dir_at ks) ++ m)
          → Tied s n (l ++ brought (select dir_at ks)) (visit_slots visit s ds ks (joined (blocks_in s) l)) (tour_slots tour s ds ks (length l))
      unfolding visit_slots tour_slots
      tied-slots [] l m r e = rw (append-nil l) (on l r)
      tied-slots (k ∷ ks) l m r e =
          let all = l ++ brought (select dir_at (k ∷ ks)) in
          tied-asks all (slot_ok s (slot_at ds k) && new_name s ds k) fault5 _ stop5 _ (five all) (λ ok. go (dir_at k) e (tied-slots ks))
        where
          rest : List ℕ
          rest = select dir_at ks

          go : (t : Bool) → dirs s ≡ l ++ (brought (keep t k rest) ++ m)
              → ((l m : List Dir) → Right s n l → dirs s ≡ l ++ (brought rest ++ m)
              → Tied s n (l ++ brought rest) (visit_slots visit s ds ks (joined (blocks_in s) l)) (tour_slots tour s ds ks (length l)))
              → Tied s n (l ++ brought (keep t k rest)) (and_then (cond t (visit (slot_at ds k) (joined (blocks_in s) l)) (met (joined (blocks_in s) l))) (visit_slots visit s ds ks))
              (goes_on (cond t (tour (slot_at ds k) (length l)) (up_to (length l))) (tour_slots tour s ds ks))
          go true q ih =
              let a = slot_at ds k in
              let e₁ : dirs s ≡ l ++ (D a ++ (brought rest ++ m)) = q ∙ ap (λ (x : List Dir). l ++ x) (append_assoc (D a) (brought rest) m) in
              let e₂ : dirs s ≡ (l ++ D a) ++ (brought rest ++ m) = e₁ ∙ sym (append_assoc l (D a) (brought rest ++ m)) in
              let down = law a l (brought rest ++ m) r e₁ in
              subst (λ (x : List Dir). Tied s n x (and_then (visit a (joined (blocks_in s) l)) (visit_slots visit s ds ks)) (goes_on (tour a (length l)) (tour_slots tour s ds ks)))
              (append_assoc l (D a) (brought rest))
              (tied_then (l ++ D a) ((l ++ D a) ++ brought rest) (visit a (joined (blocks_in s) l)) (tour a (length l)) (visit_slots visit s ds ks) (tour_slots tour s ds ks) down (λ r₂. ih (l ++ D a) m r₂ e₂))
          go false q ih = ih l m r q

      tied-entries : (l m : List Dir) → Right s n l → dirs s ≡ l ++ (brought (select dir_at (slots ds)) ++ m)
          → Tied s n (l ++ brought (select dir_at (slots ds))) (visit_entries visit s ds (joined (blocks_in s) l)) (tour_entries tour s ds (length l))
      unfolding visit_entries tour_entries
      tied-entries l m r e =
          let all = l ++ brought (select dir_at (slots ds)) in
          tied-asks all (eqb (type_of s (slot_at ds (4 * length ds - 1))) 255) fault5 _ stop5 _ (five all) (λ ok. tied-slots (slots ds) l m r e)

  -- what the child of the entry at e brings, with `left` levels left
  D : ℕ → ℕ → List Dir
  D zero e = []
  D (suc left) e = below s left (first_block s e)

  nothing : (xs : List ℕ) → joined {B = Dir} (λ (k : ℕ). []) xs ≡ []
  nothing [] = refl
  nothing (x ∷ xs) = nothing xs

  brought-under : (left b : ℕ)
      → joined (λ k. D left (slot_at (directory s b) k)) (select (λ k. is_directory (type_of s (slot_at (directory s b) k))) (slots (directory s b))) ≡ under s left b
  unfolding D children
  brought-under zero b = nothing (select (λ k. is_directory (type_of s (slot_at (directory s b) k))) (slots (directory s b)))
  brought-under (suc left) b = sym (join-map (D (suc left)) (slot_at (directory s b)) (select (λ k. is_directory (type_of s (slot_at (directory s b) k))) (slots (directory s b))))

  -- the directory at b, met as the last, and all below it
  module _ (left b : ℕ)
      (law : (e : ℕ) (l m : List Dir) → Right s n l → dirs s ≡ l ++ (D left e ++ m)
      → Tied s n (l ++ D left e) (visit_child left s n b e (joined (blocks_in s) l)) (tour_child left s n b e (length l)))
    where
      count-more : (l : List Dir) → length (l ++ ((b, left) ∷ [])) ≡ suc (length l)
      count-more l = length-append l ((b, left) ∷ []) ∙ omega arith

      tied-directory : (l m : List Dir) → Right s n (l ++ ((b, left) ∷ [])) → dirs s ≡ l ++ (below s left b ++ m)
          → Tied s n (l ++ below s left b) (visit_entries (visit_child left s n b) s (directory s b) (joined (blocks_in s) l ++ directory s b))
          (tour_entries (tour_child left s n b) s (directory s b) (suc (length l)))
      tied-directory l m r e =
          let here : List Dir = (b, left) ∷ [] in
          let u = brought-under left b in
          let q : (x : List Dir) → l ++ (below s left b ++ x) ≡ (l ++ here) ++ (under s left b ++ x) =
          λ x. ap (λ (y : List Dir). l ++ (y ++ x)) (below-is s left b) ∙ sym (append_assoc l here (under s left b ++ x)) in
          let q₀ : l ++ below s left b ≡ (l ++ here) ++ under s left b = ap (λ (y : List Dir). l ++ y) (below-is s left b) ∙ sym (append_assoc l here (under s left b)) in
          let x = tied-entries (directory s b) (visit_child left s n b) (tour_child left s n b) (D left) law (l ++ here) m r
          (e ∙ q m ∙ ap (λ (y : List Dir). (l ++ here) ++ (y ++ m)) (sym u)) in
          rw (q₀, ← u, ← met-more s b left l, ← count-more l) x

  module _ (h : min_blocks ≤ n) where
    tied-child : (left p e : ℕ) (l m : List Dir) → Right s n l → dirs s ≡ l ++ (D left e ++ m)
        → Tied s n (l ++ D left e) (visit_child left s n p e (joined (blocks_in s) l)) (tour_child left s n p e (length l))
    unfolding visit_child tour_child D
    tied-child zero p e l m r q = four (l ++ [])
    tied-child (suc left) p e l m r q =
        let b = first_block s e in
        let all = l ++ below s left b in
        let new : Bool = every (λ x. not (has eqb x (joined (blocks_in s) l))) (directory s b) in
        let unheld : Bool = every (λ x. eqb (held_before s (length l) x) 0) (directory s b) in
        let u : unheld ≡ new =
        every-same (λ x. eqb (held_before s (length l) x) 0) (λ x. not (has eqb x (joined (blocks_in s) l))) (directory s b) (λ x i. before-none s x l (below s left b ++ m) q) in
        let more : (child_ok s n p e && new) ≡ true → Right s n (l ++ ((b, left) ∷ [])) =
        λ ok. let w = and_split (child_ok s n p e) new ok in right-more s n l b left p r (child_ok-directory s n p e w.0) w.1 in
        let t : (plain_child_ok s n p e && (ltb (length l) n && unheld)) ≡ (child_ok s n p e && new) =
        rw (child-ok s n p e h, u) (both_ways _ _
        (λ ok.
        let w = and_split (child_ok s n p e) _ ok in
        and-join w.0 (and_split (ltb (length l) n) new w.1).1)
        (λ ok.
        let w = and_split (child_ok s n p e) new ok in
        and-join w.0 (and-join (lt-ltb (length l) n (omega (arith, right-most s n _ (more ok), length-append l ((b, left) ∷ [])))) w.1))) in
        rw t (tied-asks all (child_ok s n p e && new) fault4 _ stop4 _ (four all) (λ ok. tied-directory left b (tied-child left b) l m (more ok) q))

-- from the root
tied-root : (s : List ℕ) → min_blocks ≤ block_count s → Tied s (block_count s) (dirs s) (visit_root s) (tour_root s)
unfolding visit_root tour_root dirs
tied-root s h =
    let n = block_count s in
    let b = root_of s in
    let e : dirs s ≡ below s max_levels b ++ [] = sym (append-nil (below s max_levels b)) in
    rw (directory-ok s n b b h) (tied-asks s n (dirs s) (directory_ok s n b b) fault4 _ stop4 _ (four s n (dirs s))
    (λ ok.
    let r = right-more s n [] b max_levels b (right-none s n) ok (in-every (λ x. true) (directory s b) (λ x i. refl)) in
    tied-directory s n max_levels b (tied-child s n h max_levels b) [] [] r e))

-- THE SAME FAULT
pub tour-visit : (s : List ℕ) → min_blocks ≤ block_count s → stop_of (tour_root s) ≡ fault_of (visit_root s)
tour-visit s h = tied-fault s (block_count s) (dirs s) (visit_root s) (tour_root s) (tied-root s h)
