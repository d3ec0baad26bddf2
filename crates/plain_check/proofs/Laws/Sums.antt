-- Sums over lists, and the second question: it is asked of exactly the chains of `all_chains s`.
use Prim.Native.Nat.{ℕ, zero, suc, ◌+◌, ◌*◌}
use mathlib.Core.Bool.{Bool, true, false, cond}
use mathlib.Core.List.{List, [], ◌∷◌, ◌++◌, map}
use mathlib.Core.Path.{◌≡◌, refl, sym, ap, ◌∙◌}
use native.Mathlib.Omega.{arith}
use lib.ListN.{length}
use Rattle.layout.specs.Lists.{select, keep, joined}
use Rattle.layout.specs.Limits.{max_levels}
use Rattle.layout.specs.Table.{next}
use Rattle.layout.specs.Directory.{slot_at, slots, type_of, first_block, blocks_of, attribute_block_of, attribute_size_of, is_file, is_directory, files, directory, root_of, children, below, dirs}
use Rattle.layout.specs.Check.{file_chains, chains, all_chains}
use Rattle.layout.proofs.Laws.Chains.{length-chain}
use Rattle.plain_check.specs.Plain.{total, ask_slot, ask_directory, ask_tree}
use Rattle.plain_check.proofs.Laws.Before.{Dir}

module _ {A : Type 0} (f : A → ℕ) where
  total-append : (xs ys : List A) → total f (xs ++ ys) ≡ total f xs + total f ys
  total-append [] ys = omega arith
  total-append (x ∷ xs) ys = omega (arith, total-append xs ys)

  total-join : {B : Type 0} (g : B → List A) (xs : List B) → total f (joined g xs) ≡ total (λ x. total f (g x)) xs
  total-join g [] = refl
  total-join g (x ∷ xs) = total-append (g x) (joined g xs) ∙ ap (λ (r : ℕ). total f (g x) + r) (total-join g xs)

  total-map : {B : Type 0} (g : B → A) (xs : List B) → total f (map g xs) ≡ total (λ x. f (g x)) xs
  total-map g [] = refl
  total-map g (x ∷ xs) = ap (λ (r : ℕ). f (g x) + r) (total-map g xs)

total-same : {A : Type 0} (f g : A → ℕ) → ((x : A) → f x ≡ g x) → (xs : List A) → total f xs ≡ total g xs
total-same f g h [] = refl
total-same f g h (x ∷ xs) = rw (h x, total-same f g h xs)

total-none : (xs : List ℕ) → total (λ x. 0) xs ≡ 0
total-none [] = refl
total-none (x ∷ xs) = omega (arith, total-none xs)

-- two sums over what passes two tests, in one
two-sums : (p q : ℕ → Bool) (f g : ℕ → ℕ) (xs : List ℕ)
    → total (λ x. cond (p x) (f x) 0 + cond (q x) (g x) 0) xs ≡ total f (select p xs) + total g (select q xs)
two-sums p q f g [] = omega arith
two-sums p q f g (x ∷ xs) = go (p x) (q x) (two-sums p q f g xs)
  where
    go : (t u : Bool) → total (λ x. cond (p x) (f x) 0 + cond (q x) (g x) 0) xs ≡ total f (select p xs) + total g (select q xs)
        → (cond t (f x) 0 + cond u (g x) 0) + total (λ x. cond (p x) (f x) 0 + cond (q x) (g x) 0) xs
        ≡ total f (keep t x (select p xs)) + total g (keep u x (select q xs))
    go true true ih = omega arith
    go true false ih = omega arith
    go false true ih = omega arith
    go false false ih = omega arith

module _ (f : ℕ → ℕ → ℕ) (s : List ℕ) where
  abbrev F : ℕ × ℕ → ℕ
  F c = f c.0 c.1

  -- of one directory and its files
  abbrev here : Dir → ℕ
  here d = total F (chains s d.0)

  abbrev dir_at : ℕ → ℕ → Bool
  dir_at d k = is_directory (type_of s (slot_at (directory s d) k))

  directory-asked : (child : ℕ → ℕ) (d left : ℕ)
      → ask_directory f child s d ≡ here (d, left) + total (λ k. child (slot_at (directory s d) k)) (select (dir_at d) (slots (directory s d)))
  unfolding ask_directory ask_slot chains files file_chains directory
  directory-asked child d left =
      let ds = directory s d in
      let own : ℕ → ℕ = λ k. f (first_block s (slot_at ds k)) (blocks_of s (slot_at ds k)) + f (attribute_block_of s (slot_at ds k)) (attribute_size_of s (slot_at ds k)) in
      let sel = select (λ k. is_file (type_of s (slot_at ds k))) (slots ds) in
      let a = two-sums (λ k. is_file (type_of s (slot_at ds k))) (dir_at d) own (λ k. child (slot_at ds k)) (slots ds) in
      let b : total F (joined (λ k. file_chains s (slot_at ds k)) sel) ≡ total own sel =
      total-join F (λ k. file_chains s (slot_at ds k)) sel ∙ total-same (λ k. total F (file_chains s (slot_at ds k))) own (λ k. omega arith) sel in
      let l : f d (length ds) ≡ f d (blocks_of s (512 * d)) = ap (f d) (length-chain (next s) d (blocks_of s (512 * d))) in
      omega arith

  tree-asked : (left d : ℕ) → ask_tree f left s d ≡ total here (below s left d)
  unfolding ask_tree below children
  tree-asked zero d =
      let z = total-none (select (dir_at d) (slots (directory s d))) in
      directory-asked (λ e. 0) d zero ∙ omega arith
  tree-asked (suc left) d =
      let ds = directory s d in
      let sel = select (dir_at d) (slots ds) in
      let child : ℕ → ℕ = λ e. ask_tree f left s (first_block s e) in
      let B : ℕ → List Dir = λ e. below s left (first_block s e) in
      let a : total (λ k. child (slot_at ds k)) sel ≡ total here (joined B (children s d)) =
      total-same (λ k. child (slot_at ds k)) (λ k. total here (B (slot_at ds k))) (λ k. tree-asked left (first_block s (slot_at ds k))) sel
      ∙ sym (total-map (λ e. total here (B e)) (slot_at ds) sel) ∙ sym (total-join here B (children s d)) in
      directory-asked child d (suc left) ∙ ap (λ (r : ℕ). here (d, suc left) + r) a

  -- THE SECOND QUESTION
  pub asked : ask_tree f max_levels s (root_of s) ≡ total F (all_chains s)
  unfolding all_chains dirs
  asked = tree-asked max_levels (root_of s) ∙ sym (total-join F (λ (d : Dir). chains s d.0) (dirs s))
