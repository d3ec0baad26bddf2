-- WHAT A SOUND IMAGE GIVES: its root is filled, no block is held twice, and what is held by nobody has the value 0.
use Prim.Native.Nat.{ℕ, zero, suc, ◌+◌, ◌-◌, ◌*◌, ◌≤◌, ◌<◌}
use mathlib.Core.Bool.{Bool, true, ◌||◌}
use mathlib.Core.List.{List}
use mathlib.Core.Logic.{◌⊎◌, inl, inr, ⊎_elim}
use mathlib.Core.Path.{◌≡◌, refl, subst}
use native.Mathlib.Omega.{arith}
use lib.Dec.{eqb}
use lib.ListN.{length}
use borrow.Author.Tests.{eqb-true}
use Rattle.layout.specs.Limits.{min_blocks, max_blocks, max_levels}
use Rattle.layout.specs.Lists.{interval, every, has, distinct, select}
use Rattle.layout.specs.Geometry.{block_count, table_blocks}
use Rattle.layout.specs.Table.{all_ones, next, chain_ok}
use Rattle.layout.specs.Directory.{slot_at, slots, type_of, first_block, blocks_of, attribute_block_of, attribute_size_of, is_file, files, directory, root_of, children, below, dirs}
use Rattle.layout.specs.Check.{stage1, stage2, stage3, stage6, stage7, directory_ok, file_chains, chains, all_chains, owned, table_ok, visit_root, fault_of, check}
use Rattle.layout.proofs.Laws.Tests.{and_split, require-zero, first_of-zero, within-split, or_split}
use Rattle.layout.proofs.Laws.Lists.{In, every_in, every-interval, has-eqb-in}
use Rattle.layout.proofs.Laws.Joins.{to-join, interval-in, select_has}
use Rattle.layout.proofs.Laws.Slots.{children-in}
use Rattle.layout.proofs.Laws.Visits.{Local, below-is, tree}
use Rattle.layout.proofs.Laws.Trees.{length-directory}
use Rattle.salvage_tree.proofs.Laws.Counting.{in_count, once-count}
use Rattle.salvage_tree.proofs.Laws.Held.{held, all-held}
use Rattle.salvage_tree.proofs.Laws.Fine.{as_given, EntryKept, Filled, ChildFine}

entry-same : (s : List ℕ) (e : ℕ) → EntryKept s s e
entry-same s e =
    record {
      front = λ i l. refl;
      middle = λ i l. refl;
      back = λ i l. refl;
      size = λ f i l. refl;
      folder = λ f i l. refl;
      blocks = λ f. refl;
      bytes = λ f x i j l. refl;
      second = λ f. inr (record { fields = λ i l. refl; blocks = refl; bytes = λ x i j l. refl });
    }

pub record Given (s : List ℕ) (n : ℕ) : Type 0 where
  pub one : stage1 s ≡ true
  pub whole : length s ≡ 512 * n
  pub least : min_blocks ≤ n
  pub most : n ≤ max_blocks
  pub signed : stage2 s ≡ true
  pub numbered : stage3 s ≡ true
  pub counted : stage7 s ≡ true
  pub rooted : directory_ok s n (root_of s) (root_of s) ≡ true
  pub filled : Filled s (as_given s) n max_levels (ChildFine s (as_given s) n max_levels (root_of s)) (directory s (root_of s))
  pub once : (x : ℕ) → held s max_levels (root_of s) x ≤ 1
  pub ones : (x : ℕ) → x ≤ table_blocks n → next s x ≡ 1
  pub rest : (x : ℕ) → table_blocks n < x → x < 128 * table_blocks n → (next s x ≡ 0) ⊎ (1 ≤ held s max_levels (root_of s) x)

module _ (s : List ℕ) (n : ℕ) where
  record Right (d : ℕ × ℕ) : Type 0 where
    local : Local s n d.0 d.1
    chained : (c : ℕ × ℕ) → In c (chains s d.0) → chain_ok (next s) n c.0 c.1 ≡ true

  module _ (left b : ℕ) (R : Right (b, left)) (kids : (e : ℕ) → In e (children s b) → ChildFine s (as_given s) n left b e) where
    ds : List ℕ
    ds = directory s b

    file-chain : (k : ℕ) → In k (slots (directory s b)) → is_file (type_of s (slot_at (directory s b) k)) ≡ true → (c : ℕ × ℕ) → In c (file_chains s (slot_at (directory s b) k)) → chain_ok (next s) n c.0 c.1 ≡ true
    unfolding chains files
    file-chain k i f c m =
        let q : ℕ → Bool = λ j. is_file (type_of s (slot_at (directory s b) j)) in
        R.chained c (inr (to-join (λ j. file_chains s (slot_at (directory s b) j)) (select q (slots (directory s b))) k c (select_has q (slots (directory s b)) k i f) m))

    fill : Filled s (as_given s) n left (ChildFine s (as_given s) n left b) (directory s b)
    unfolding file_chains
    fill =
        record {
          end-type = R.local.end-type;
          slot = λ k h g.
              let i = interval-in (4 * length (directory s b) - 2) 1 k h (omega arith) in
              record {
                kept = λ u. inl (entry-same s (slot_at (directory s b) k));
                ok = R.local.slot k i;
                name = R.local.name k i;
                first = λ f. file-chain k i f (first_block s (slot_at (directory s b) k), blocks_of s (slot_at (directory s b) k)) (inl refl);
                second = λ f. file-chain k i f (attribute_block_of s (slot_at (directory s b) k), attribute_size_of s (slot_at (directory s b) k)) (inr (inl refl));
                child = λ d. kids (slot_at (directory s b) k) (children-in s b k h (omega (arith, length-directory s b)) d);
                told =
                    record {
                      gone = λ z. inl (refl, z);
                      file = λ f. inl (λ j l. refl, inl refl);
                      folder = λ f. inl (entry-same s (slot_at (directory s b) k), inl refl);
                    };
                form = λ z. absurd (omega arith);
                over = λ z. absurd (omega arith);
              };
        }

  fill-all : (left b : ℕ) → ((d : ℕ × ℕ) → In d (below s left b) → Right d) → Filled s (as_given s) n left (ChildFine s (as_given s) n left b) (directory s b)
  unfolding ChildFine
  fill-all zero b f =
      let R = f (b, zero) (rw (below-is s zero b) (inl refl)) in
      fill zero b R (λ e i. subst (In e) (R.local.deep refl) i)
  fill-all (suc left) b f =
      let R = f (b, suc left) (rw (below-is s (suc left) b) (inl refl)) in
      fill (suc left) b R (λ e i.
      (R.local.child e i, fill-all left (first_block s e) (λ d j. f d (rw (below-is s (suc left) b) (inr (to-join (λ a. below s left (first_block s a)) (children s b) e d i j))))))

pub given : (s : List ℕ) → check s ≡ 0 → Given s (block_count s)
unfolding check stage1 stage6 table_ok all_ones all_chains dirs
given s c =
    let n = block_count s in
    let a₁ = require-zero (stage1 s) 0 _ c in
    let a₂ = require-zero (stage2 s) 1 _ a₁.1 in
    let a₃ = require-zero (stage3 s) 2 _ a₂.1 in
    let a₄ = first_of-zero (fault_of (visit_root s)) _ a₃.1 in
    let a₆ = require-zero (stage6 s) 5 _ a₄.1 in
    let a₇ = require-zero (stage7 s) 6 _ a₆.1 in
    let one = and_split (eqb (length s) (512 * n)) _ a₁.0 in
    let size = within-split min_blocks max_blocks n one.1 in
    let T = tree s a₄.0 in
    let six = and_split (every (λ c. chain_ok (next s) n c.0 c.1) (all_chains s)) _ a₆.0 in
    let dis = and_split (distinct eqb (owned (next s) (all_chains s))) _ six.1 in
    let low = and_split (every (λ b. eqb (next s b) 1) (interval 0 (table_blocks n + 1))) _ dis.1 in
    record {
      one = a₁.0;
      whole = eqb-true _ _ one.0;
      least = size.0;
      most = size.1;
      signed = a₂.0;
      numbered = a₃.0;
      counted = a₇.0;
      rooted = T.rooted;
      filled = fill-all s n max_levels (root_of s) (λ d i.
          record {
            local = T.local d i;
            chained = λ c j. every_in (λ c. chain_ok (next s) n c.0 c.1) (all_chains s) c six.0 (to-join (λ d. chains s d.0) (dirs s) d c i j);
          });
      once = λ x. let h = once-count (owned (next s) (all_chains s)) dis.0 x in omega (arith, all-held s x);
      ones = λ x h. eqb-true _ 1 (every-interval (λ b. eqb (next s b) 1) 0 (table_blocks n + 1) low.0 x (omega arith) (omega arith));
      rest = λ x h g. ⊎_elim (λ z. inl (eqb-true _ 0 z))
          (λ z. let i = in_count x (owned (next s) (all_chains s)) (has-eqb-in x (owned (next s) (all_chains s)) z) in inr (omega (arith, all-held s x)))
          (or_split (eqb (next s x) 0) (has eqb x (owned (next s) (all_chains s)))
          (every-interval (λ b. eqb (next s b) 0 || has eqb b (owned (next s) (all_chains s))) (table_blocks n + 1) (128 * table_blocks n - (table_blocks n + 1)) low.1 x (omega arith) (omega arith)));
    }

-- no block is in two chains
pub sound-distinct : (s : List ℕ) → check s ≡ 0 → distinct eqb (owned (next s) (all_chains s)) ≡ true
unfolding check stage6 table_ok all_ones
sound-distinct s c =
    let a₁ = require-zero (stage1 s) 0 _ c in
    let a₂ = require-zero (stage2 s) 1 _ a₁.1 in
    let a₃ = require-zero (stage3 s) 2 _ a₂.1 in
    let a₄ = first_of-zero (fault_of (visit_root s)) _ a₃.1 in
    let a₆ = require-zero (stage6 s) 5 _ a₄.1 in
    let six = and_split (every (λ c. chain_ok (next s) (block_count s) c.0 c.1) (all_chains s)) _ a₆.0 in
    (and_split (distinct eqb (owned (next s) (all_chains s))) _ six.1).0
