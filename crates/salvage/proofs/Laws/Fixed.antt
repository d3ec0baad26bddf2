-- A SOUND IMAGE IS UNCHANGED, and all its codes are 0.
use Prim.Native.Nat.{ℕ, zero, suc, ◌+◌, ◌-◌, ◌*◌, ◌≤◌}
use mathlib.Core.Bool.{Bool, true, false, not, ◌||◌, or-true}
use mathlib.Core.List.{List, [], ◌∷◌, ◌++◌, map, append-nil, append_assoc}
use mathlib.Core.Logic.{inl, inr, ⊎_elim, ◌≢◌}
use mathlib.Core.Path.{◌≡◌, refl, sym, ap, ◌∙◌, subst}
use native.Mathlib.Decide.{ℕ_discrete}
use native.Mathlib.Omega.{arith}
use lib.Dec.{eqb}
use lib.ListN.{length}
use borrow.Author.Tests.{eq-eqb, eqb-true, ne_eqb}
use Rattle.layout.specs.Limits.{max_levels}
use Rattle.layout.specs.Lists.{interval, every, has, distinct, last_or}
use Rattle.layout.specs.Bytes.{zeros}
use Rattle.layout.specs.Geometry.{block_count, table_blocks, in_volume}
use Rattle.layout.specs.Table.{next, chain, ends_after, chain_ok, all_ones}
use Rattle.layout.specs.Directory.{slot_at, slots, type_of, first_block, blocks_of, attribute_block_of, attribute_size_of, is_file, is_directory, files, directory, root_of, children, dirs, file_blocks, attribute_blocks}
use Rattle.layout.specs.Check.{stage1, stage2, stage3, stage6, stage7, file_chains, chains, all_chains, owned, table_ok, visit_root, fault_of, check}
use Rattle.layout.proofs.Laws.Tests.{and_split, and-join, require-zero, first_of-zero, true-not-false, eqb-self}
use Rattle.layout.proofs.Laws.Lists.{In, in_left, every_in, distinct-left, distinct-right, distinct_apart}
use Rattle.layout.proofs.Laws.Bytes.{zeros-add}
use Rattle.layout.proofs.Laws.Joins.{in-interval, interval-in, select-none}
use Rattle.layout.proofs.Laws.Sound.{slot_ok-split}
use Rattle.layout.proofs.Laws.Visits.{Local, Tree, below-is, tree}
use Rattle.layout.proofs.Laws.Trees.{length-directory, root_in}
use Rattle.salvage.specs.Salvage.{Progress, claimable, ends, ended, take_file, skip, take_slot, take_slots, slots_done, end_right, end_put, one_at, free_at, in_turn, table_put, counts_put, salvage_image, salvage_codes}
use Rattle.salvage.proofs.Laws.Walked.{claimable-join}
use Rattle.salvage.proofs.Laws.Done.{chains_at, files_to, right, files-next, owned-append}
use Rattle.salvage.proofs.Laws.Result.{Given, no-directory, last-slot}

-- a right chain needs no new end, and its blocks are in the volume
module _ (v : ℕ → ℕ) (n : ℕ) where
  ends_last : (k b : ℕ) → ends_after v n b (suc k) ≡ true → v (last_or 0 (chain v b (suc k))) ≡ 1
  unfolding chain ends_after
  ends_last zero b e = eqb-true (v b) 1 (and_split (in_volume n b) _ e).1
  ends_last (suc k) b e = ends_last k (v b) (and_split (in_volume n b) _ e).1

  ends-inside : (k b : ℕ) → ends_after v n b k ≡ true → every (in_volume n) (chain v b k) ≡ true
  unfolding chain ends_after
  ends-inside zero b e = refl
  ends-inside (suc k) b e = let w = and_split (in_volume n b) _ e in and-join w.0 (ends-inside k (v b) w.1)

  right-inside : (b k : ℕ) → chain_ok v n b k ≡ true → every (in_volume n) (chain v b k) ≡ true
  unfolding chain_ok chain
  right-inside b zero e = refl
  right-inside b (suc k) e = ends-inside (suc k) b e

right-ends : (s : List ℕ) (n b k : ℕ) → chain_ok (next s) n b k ≡ true → ends s (chain (next s) b k) ≡ true
unfolding chain_ok chain ends
right-ends s n b zero e = refl
right-ends s n b (suc k) e = rw (eq-eqb _ 1 (ends_last (next s) n k b e)) (or-true (eqb (length (chain (next s) b (suc k))) 0))

-- a turn that changes nothing
turn-same : (f : List ℕ → ℕ → List ℕ) (s bs : List ℕ) → ((b : ℕ) → In b bs → f s b ≡ s) → in_turn f s bs ≡ s
unfolding in_turn
turn-same f s [] h = refl
turn-same f s (b ∷ bs) h = ap (λ (x : List ℕ). in_turn f x bs) (h b (inl refl)) ∙ turn-same f s bs (λ c i. h c (inr i))

every-right : {A : Type 0} (q : A → Bool) (xs ys : List A) → every q (xs ++ ys) ≡ true → (every q xs ≡ true) × (every q ys ≡ true)
every-right q [] ys e = (refl, e)
every-right q (x ∷ xs) ys e = let w = and_split (q x) _ e in let r = every-right q xs ys w.1 in (and-join w.0 r.0, r.1)

progress-same : (s c d k l : List ℕ) → c ≡ d → k ≡ l → ◌≡◌ {A = Progress} (record { image = s; claimed = c; codes = k }) (record { image = s; claimed = d; codes = l })
progress-same s c d k l p q = rw (p, q)

zeros-more : (j : ℕ) → zeros (suc j) ++ (0 ∷ []) ≡ zeros (suc (suc j))
unfolding zeros
zeros-more j = sym (let e : suc (suc j) ≡ suc j + 1 = omega arith in ap zeros e ∙ zeros-add (suc j) 1)

-- a sound image with no directory in the root is accepted
pub sound-given : (s : List ℕ) → check s ≡ 0 → every (λ k. not (is_directory (type_of s (slot_at (directory s (root_of s)) k)))) (slots (directory s (root_of s))) ≡ true → Given s
unfolding check
sound-given s c p =
    let a₁ = require-zero (stage1 s) 0 _ c in
    let a₂ = require-zero (stage2 s) 1 _ a₁.1 in
    let a₃ = require-zero (stage3 s) 2 _ a₂.1 in
    let a₄ = first_of-zero (fault_of (visit_root s)) _ a₃.1 in
    record { one = a₁.0; two = a₂.0; three = a₃.0; four = (tree s a₄.0).rooted; plain = p }

module _ (s : List ℕ) (c : check s ≡ 0) (A : Given s) where
  abbrev n : ℕ
  n = block_count s

  abbrev r : ℕ
  r = root_of s

  abbrev ds : List ℕ
  ds = directory s (root_of s)

  abbrev m : ℕ
  m = 4 * length ds - 2

  stages : (fault_of (visit_root s) ≡ 0) × (stage6 s ≡ true) × (stage7 s ≡ true)
  unfolding check
  stages =
      let a₁ = require-zero (stage1 s) 0 _ c in
      let a₂ = require-zero (stage2 s) 1 _ a₁.1 in
      let a₃ = require-zero (stage3 s) 2 _ a₂.1 in
      let a₄ = first_of-zero (fault_of (visit_root s)) _ a₃.1 in
      let a₆ = require-zero (stage6 s) 5 _ a₄.1 in
      let a₇ = require-zero (stage7 s) 6 _ a₆.1 in
      (a₄.0, a₆.0, a₇.0)

  T : Tree s n
  T = tree s stages.0

  L : Local s n r max_levels
  L = T.local (r, max_levels) (root_in s n)

  no-children : children s r ≡ []
  unfolding children
  no-children =
      ap (map (slot_at ds)) (select-none (λ k. is_directory (type_of s (slot_at ds k))) (slots ds)
      (λ k i e. let x = in-interval 1 m k i in true-not-false e (no-directory s A k x.0 (omega arith))))

  dirs-one : dirs s ≡ (r, max_levels) ∷ []
  unfolding dirs
  dirs-one = rw (below-is s max_levels r, no-children)

  all-chains : all_chains s ≡ (r, length ds) ∷ files_to s ds m
  unfolding all_chains chains files_to files
  all-chains = rw dirs-one (append-nil _)

  own-chain : chain (next s) r (length ds) ≡ ds
  unfolding directory
  own-chain = rw (length-directory s r)

  claimed_at : ℕ → List ℕ
  claimed_at j = ds ++ owned (next s) (files_to s ds j)

  all-owned : owned (next s) ((r, length ds) ∷ files_to s ds m) ≡ claimed_at m
  unfolding owned claimed_at
  all-owned = ap (λ (l : List ℕ). l ++ owned (next s) (files_to s ds m)) own-chain

  record Table₁ : Type 0 where
    rights : right s n (files_to s ds m) ≡ true
    once : distinct eqb (claimed_at m) ≡ true
    low : every (λ b. eqb (next s b) 1) (interval 0 (table_blocks n + 1)) ≡ true
    high : every (λ b. eqb (next s b) 0 || has eqb b (claimed_at m)) (interval (table_blocks n + 1) (128 * table_blocks n - (table_blocks n + 1))) ≡ true

  table : Table₁
  unfolding stage6 table_ok all_ones
  table =
      let w = rw (all-chains, all-owned) at stages.1 in
      let a₁ = and_split (every (λ c. chain_ok (next s) n c.0 c.1) ((r, length ds) ∷ files_to s ds m)) _ w in
      let a₂ = and_split (distinct eqb (claimed_at m)) _ a₁.1 in
      let a₃ = and_split (every (λ b. eqb (next s b) 1) (interval 0 (table_blocks n + 1))) _ a₂.1 in
      record { rights = (and_split (chain_ok (next s) n r (length ds)) _ a₁.0).1; once = a₂.0; low = a₃.0; high = a₃.1 }

  -- the claimed blocks before each slot
  record Upto (j : ℕ) : Type 0 where
    rights : right s n (files_to s ds j) ≡ true
    once : distinct eqb (claimed_at j) ≡ true

  claimed-next : (j : ℕ) → claimed_at (suc j) ≡ claimed_at j ++ owned (next s) (chains_at s ds (suc j))
  unfolding claimed_at
  claimed-next j =
      ap (λ (l : List (ℕ × ℕ)). ds ++ owned (next s) l) (files-next s ds j) ∙ ap (λ (l : List ℕ). ds ++ l) (owned-append (next s) (files_to s ds j) (chains_at s ds (suc j)))
      ∙ sym (append_assoc ds (owned (next s) (files_to s ds j)) (owned (next s) (chains_at s ds (suc j))))

  rights-next : (j : ℕ) → Upto (suc j) → (right s n (files_to s ds j) ≡ true) × (right s n (chains_at s ds (suc j)) ≡ true)
  rights-next j U = every-right (λ c. chain_ok (next s) n c.0 c.1) (files_to s ds j) (chains_at s ds (suc j)) (rw (files-next s ds j) at U.rights)

  once-next : (j : ℕ) → Upto (suc j) → distinct eqb (claimed_at j ++ owned (next s) (chains_at s ds (suc j))) ≡ true
  once-next j U = rw (claimed-next j) at U.once

  down : (k j : ℕ) → Upto (j + k) → Upto j
  down zero j U = let e : j + 0 ≡ j = omega arith in subst Upto e U
  down (suc k) j U =
      let e : j + suc k ≡ suc j + k = omega arith in
      let W = down k (suc j) (subst Upto e U) in
      record { rights = (rights-next j W).0; once = distinct-left eqb eqb-true eqb-self (claimed_at j) (owned (next s) (chains_at s ds (suc j))) (once-next j W) }

  upto : (j : ℕ) → j ≤ m → Upto j
  upto j h = let e : m ≡ j + (m - j) = omega arith in down (m - j) j (subst Upto e (record { rights = table.rights; once = table.once }))

  abbrev at : ℕ → Progress
  at j = record { image = s; claimed = claimed_at j; codes = zeros (suc j) }

  -- a file's chains
  module _ (j : ℕ) (h : suc j ≤ m) (file : is_file (type_of s (slot_at ds (suc j))) ≡ true) where
    abbrev e : ℕ
    e = slot_at ds (suc j)

    abbrev bs : List ℕ
    bs = file_blocks s e

    abbrev xs : List ℕ
    xs = attribute_blocks s e

    two-chains : owned (next s) (chains_at s ds (suc j)) ≡ bs ++ xs
    unfolding chains_at file_chains owned file_blocks attribute_blocks
    two-chains = rw (file, append-nil (chain (next s) (attribute_block_of s e) (attribute_size_of s e)))

    both_right : (chain_ok (next s) n (first_block s e) (blocks_of s e) ≡ true) × (chain_ok (next s) n (attribute_block_of s e) (attribute_size_of s e) ≡ true)
    unfolding chains_at file_chains
    both_right =
        let w = rw file at (rights-next j (upto (suc j) h)).1 in
        let a = and_split (chain_ok (next s) n (first_block s e) (blocks_of s e)) _ w in
        (a.0, (and_split (chain_ok (next s) n (attribute_block_of s e) (attribute_size_of s e)) _ a.1).0)

    once₁ : distinct eqb (claimed_at j ++ (bs ++ xs)) ≡ true
    once₁ = rw two-chains at (once-next j (upto (suc j) h))

    once₂ : distinct eqb ((claimed_at j ++ bs) ++ xs) ≡ true
    once₂ = rw (append_assoc (claimed_at j) bs xs) once₁

    first_good : claimable n (claimed_at j) bs ≡ true
    unfolding file_blocks
    first_good =
        claimable-join n (claimed_at j) bs
        (record {
          inside = right-inside (next s) n (first_block s e) (blocks_of s e) both_right.0;
          once = distinct-left eqb eqb-true eqb-self bs xs (distinct-right eqb eqb-true eqb-self (claimed_at j) (bs ++ xs) once₁);
          fresh = λ x i k. distinct_apart eqb eqb-true eqb-self (claimed_at j) (bs ++ xs) once₁ x i (in_left x bs xs k);
        })

    second-good : claimable n (claimed_at j ++ bs) xs ≡ true
    unfolding attribute_blocks
    second-good =
        claimable-join n (claimed_at j ++ bs) xs
        (record {
          inside = right-inside (next s) n (attribute_block_of s e) (attribute_size_of s e) both_right.1;
          once = distinct-right eqb eqb-true eqb-self (claimed_at j ++ bs) xs once₂;
          fresh = λ x i k. distinct_apart eqb eqb-true eqb-self (claimed_at j ++ bs) xs once₂ x i k;
        })

    first_ends : ends s bs ≡ true
    unfolding file_blocks
    first_ends = right-ends s n (first_block s e) (blocks_of s e) both_right.0

    second-ends : ends s xs ≡ true
    unfolding attribute_blocks
    second-ends = right-ends s n (attribute_block_of s e) (attribute_size_of s e) both_right.1

    file-taken : take_file (at j) e ≡ at (suc j)
    unfolding take_file ended
    file-taken =
        rw (first_ends, second-good, second-ends)
        (progress-same s ((claimed_at j ++ bs) ++ xs) (claimed_at (suc j)) (zeros (suc j) ++ (0 ∷ [])) (zeros (suc (suc j)))
        (append_assoc (claimed_at j) bs xs ∙ ap (λ (l : List ℕ). claimed_at j ++ l) (sym two-chains) ∙ sym (claimed-next j)) (zeros-more j))

  free-taken : (j : ℕ) → type_of s (slot_at ds (suc j)) ≡ 0 → skip (at j) ≡ at (suc j)
  unfolding skip chains_at owned
  free-taken j z =
      progress-same s (claimed_at j) (claimed_at (suc j)) (zeros (suc j) ++ (0 ∷ [])) (zeros (suc (suc j)))
      (sym (append-nil (claimed_at j)) ∙ ap (λ (l : List ℕ). claimed_at j ++ l) none ∙ sym (claimed-next j)) (zeros-more j)
    where
      none : [] ≡ owned (next s) (chains_at s ds (suc j))
      none = rw z

  slot-taken : (j : ℕ) → suc j ≤ m → take_slot ds (at j) (suc j) ≡ at (suc j)
  unfolding take_slot
  slot-taken j h = go (ℕ_discrete (type_of s (slot_at ds (suc j))) 0)
    where
      i : In (suc j) (slots ds)
      i = interval-in m 1 (suc j) (omega arith) (omega arith)

      is-file : type_of s (slot_at ds (suc j)) ≢ 0 → is_file (type_of s (slot_at ds (suc j))) ≡ true
      is-file u = ⊎_elim (λ z. absurd (u z)) (λ r. ⊎_elim (λ f. f.0) (λ f. absurd (true-not-false f.0 (no-directory s A (suc j) (omega arith) h))) r) (slot_ok-split s (slot_at ds (suc j)) (L.slot (suc j) i))

      go : Dec (type_of s (slot_at ds (suc j)) ≡ 0) → take_slot ds (at j) (suc j) ≡ at (suc j)
      go (yes z) = rw (eq-eqb _ 0 z) (free-taken j z)
      go (no u) = rw (ne_eqb _ 0 u, L.slot (suc j) i, L.name (suc j) i, first_good j h (is-file u)) (file-taken j h (is-file u))

  slots-taken : (k j : ℕ) → j + k ≡ m → take_slots ds (at j) (interval (suc j) k) ≡ at m
  unfolding take_slots
  slots-taken zero j e = let q : j ≡ m = omega arith in ap at q
  slots-taken (suc k) j e = ap (λ (p : Progress). take_slots ds p (interval (suc (suc j)) k)) (slot-taken j (omega arith)) ∙ slots-taken k (suc j) (omega arith)

  start_is : at 0 ≡ record { image = s; claimed = ds; codes = 0 ∷ [] }
  unfolding claimed_at files_to owned zeros
  start_is = progress-same s (ds ++ []) ds (zeros 1) (0 ∷ []) (append-nil ds) refl

  all-taken : slots_done s ≡ at m
  unfolding slots_done
  all-taken = ap (λ (p : Progress). take_slots ds p (slots ds)) (sym start_is) ∙ slots-taken m 0 (omega arith)

  end_is : end_right s ds ≡ true
  unfolding end_right
  end_is = eq-eqb _ 255 L.end-type

  end_kept : end_put s ds ≡ s
  unfolding end_put
  end_kept = rw end_is

  ones-kept : (b : ℕ) → In b (interval 0 (table_blocks n + 1)) → one_at s b ≡ s
  unfolding one_at
  ones-kept b i = rw (every_in (λ b. eqb (next s b) 1) (interval 0 (table_blocks n + 1)) b table.low i)

  swap : (x y : Bool) → x || y ≡ true → y || x ≡ true
  swap true y e = or-true y
  swap false y e = rw e

  frees-kept : (b : ℕ) → In b (interval (table_blocks n + 1) (128 * table_blocks n - (table_blocks n + 1))) → free_at (claimed_at m) s b ≡ s
  unfolding free_at
  frees-kept b i =
      rw (swap (eqb (next s b) 0) (has eqb b (claimed_at m))
      (every_in (λ b. eqb (next s b) 0 || has eqb b (claimed_at m)) (interval (table_blocks n + 1) (128 * table_blocks n - (table_blocks n + 1))) b table.high i))

  table_kept : table_put s (claimed_at m) ≡ s
  unfolding table_put
  table_kept =
      let t = table_blocks n in
      ap (λ (x : List ℕ). in_turn (free_at (claimed_at m)) x (interval (t + 1) (128 * t - (t + 1)))) (turn-same one_at s (interval 0 (t + 1)) ones-kept)
      ∙ turn-same (free_at (claimed_at m)) s (interval (t + 1) (128 * t - (t + 1))) frees-kept

  counts-kept : counts_put s ≡ s
  unfolding counts_put
  counts-kept = rw stages.2

  -- THE LAW
  pub image-kept : salvage_image s ≡ s
  unfolding salvage_image
  image-kept = rw (all-taken, end_kept, table_kept, counts-kept)

  pub codes-zero : salvage_codes s ≡ zeros (4 * length ds)
  unfolding salvage_codes
  codes-zero =
      let e : suc (suc m) ≡ 4 * length ds = omega (arith, last-slot s A) in
      rw (all-taken, end_is) (zeros-more m ∙ ap zeros e)
