-- The stages of the check, as the code takes them: chains and directories with marks, the header by itself, and the stages in parts.
use Rattle.std.specs.Prelude.{ℕ, zero, suc, ◌+◌, ◌-◌, ◌*◌, Bool, true, false, not, cond, ◌&&◌, List, [], ◌∷◌, ◌≡◌, eqb, ltb, get_or}
use Rattle.layout.specs.Limits.{max_levels}
use Rattle.layout.specs.Lists.{interval, select, same, joined}
use Rattle.layout.specs.Refusals.{require, first_of}
use Rattle.layout.specs.Bytes.{be32, part}
use Rattle.layout.specs.Geometry.{table_blocks, root_block}
use Rattle.layout.specs.Table.{next, all_ones}
use Rattle.layout.specs.Directory.{slot_at, type_of, first_block, blocks_of, is_file, is_directory, directory}
use Rattle.layout.specs.Check.{stage1, stage2, stage3, slot_ok, new_name, visit_root, fault_of, file_chains, stage6, stage7}
use Rattle.layout.specs.Walks.Chains.{Walk, walked, follow, follow_all, count_used}
use Rattle.layout.specs.Walks.Entries.{self_ok}
use Rattle.layout.specs.Walks.Slots.{entry_at}

-- a directory's self entry and chain
unfoldable pub follow_directory : List ℕ → ℕ → ℕ → ℕ → List ℕ → Walk
follow_directory s n b parent m = cond (self_ok s (512 * b) b parent) (follow (next s) n (blocks_of s (512 * b)) b m) (walked false m)

-- stage 4 of the child directory whose entry is at e
unfoldable pub child_entry : List ℕ → ℕ → ℕ → Bool
child_entry s n e =
    let b = first_block s e in
    ltb b n && (eqb (blocks_of s (512 * b)) (blocks_of s e) && same (part s (512 * b + 48) 80) (part s (e + 48) 80))

unfoldable pub follow_child : List ℕ → ℕ → ℕ → ℕ → List ℕ → Walk
follow_child s n parent e m = cond (child_entry s n e) (follow_directory s n (first_block s e) parent m) (walked false m)

-- what the visit of a directory and all below it gives: 0 or the number of the first fault, and the marks of the directory blocks met
pub record Seen : Type 0 where
  pub why : ℕ
  pub marks : List ℕ

abbrev pub visited : ℕ → List ℕ → Seen
visited r m = record { why = r; marks = m }

-- the entry at e, a right slot's: `child` visits the child directory of an entry
unfoldable pub walk_entry : (ℕ → List ℕ → Seen) → List ℕ → ℕ → List ℕ → Seen
walk_entry child s e m = let down : Seen = child e m in cond (is_directory (type_of s e)) down (visited 0 m)

-- the j slots from k on of the directory ds
unfoldable pub walk_slots : (ℕ → List ℕ → Seen) → List ℕ → List ℕ → ℕ → ℕ → List ℕ → Seen
walk_slots child s ds k zero m = visited 0 m
walk_slots child s ds k (suc j) m =
    let w : Seen = walk_entry child s (slot_at ds k) m in
    let rest : Seen = walk_slots child s ds (k + 1) j w.marks in
    cond (slot_ok s (slot_at ds k) && new_name s ds k) (cond (eqb w.why 0) rest w) (visited 5 m)

-- the end slot, then the slots, of the directory ds of d blocks
unfoldable pub walk_entries : (ℕ → List ℕ → Seen) → List ℕ → List ℕ → ℕ → List ℕ → Seen
walk_entries child s ds d m =
    let rest : Seen = walk_slots child s ds 1 (4 * d - 2) m in
    cond (eqb (type_of s (slot_at ds (4 * d - 1))) 0xFF) rest (visited 5 m)

-- the child of the directory at block `parent` whose entry is at e, with `left` levels left
unfoldable pub walk_child : ℕ → List ℕ → ℕ → ℕ → ℕ → List ℕ → Seen
walk_child zero s n parent e m = visited 4 m
walk_child (suc left) s n parent e m =
    let b = first_block s e in
    let w : Walk = follow_child s n parent e m in
    let rest : Seen = walk_entries (walk_child left s n b) s (directory s b) (blocks_of s (512 * b)) w.marks in
    cond w.ok rest (visited 4 w.marks)

-- the root and all below it
unfoldable pub walk_root : List ℕ → ℕ → List ℕ → Seen
walk_root s n m =
    let b = root_block n in
    let w : Walk = follow_directory s n b b m in
    let rest : Seen = walk_entries (walk_child max_levels s n b) s (directory s b) (blocks_of s (512 * b)) w.marks in
    cond w.ok rest (visited 4 w.marks)

-- STAGE 6, when the directory blocks are known by their marks ms: a file owns two chains, its own and its attributes' (L6), a self entry that of its
-- directory. The entries of a block by slot, of all directory blocks in ascending order.
unfoldable pub slot_chains : List ℕ → ℕ → List (ℕ × ℕ)
slot_chains s e = cond (is_file (type_of s e)) (file_chains s e) (cond (eqb (type_of s e) 1) ((first_block s e, blocks_of s e) ∷ []) [])

unfoldable pub follow_file : List ℕ → ℕ → ℕ → List ℕ → Walk
follow_file s n e m = follow_all (next s) n (file_chains s e) m

unfoldable pub follow_slot : List ℕ → ℕ → ℕ → List ℕ → Walk
follow_slot s n e m = follow_all (next s) n (slot_chains s e) m

unfoldable pub follow_slots : List ℕ → ℕ → ℕ → ℕ → ℕ → List ℕ → Walk
follow_slots s n b k j m = follow_all (next s) n (joined (λ x. slot_chains s (entry_at b x)) (interval k j)) m

abbrev pub is_marked : List ℕ → ℕ → Bool
is_marked ms b = not (eqb (get_or ms b 0) 0)

unfoldable pub follow_blocks : List ℕ → ℕ → List ℕ → ℕ → ℕ → List ℕ → Walk
follow_blocks s n ms b j m = follow_all (next s) n (joined (λ x. joined (λ k. slot_chains s (entry_at x k)) (interval 0 4)) (select (is_marked ms) (interval b j))) m

-- the chains, the first entries, and that just the marked of the others are in use
unfoldable pub follow_table : List ℕ → ℕ → ℕ → List ℕ → List ℕ → Bool
follow_table s t n ms m =
    let w : Walk = follow_blocks s n ms 0 n m in
    w.ok && (all_ones (next s) 0 (t + 1) && eqb (count_used (next s) 0 (128 * t)) (t + 1 + count_used (λ b. get_or w.marks b 0) 0 (128 * t)))

-- 0 if these are not met, else how many entries are in use
pub record TableUsed (s : List ℕ) (t n : ℕ) (ms m : List ℕ) (r : ℕ) : Type 0 where
  pub none : r ≡ 0 → false ≡ follow_table s t n ms m
  pub some : (r ≡ 0 → ⊥) → (true ≡ follow_table s t n ms m) × (r ≡ count_used (next s) 0 (128 * t))

-- the header's numbers, and its counts
unfoldable pub header_ok : List ℕ → ℕ → Bool
header_ok h n = eqb (be32 h 12) n && (eqb (be32 h 16) (table_blocks n) && eqb (be32 h 28) (root_block n))

unfoldable pub counts_ok : List ℕ → ℕ → ℕ → Bool
counts_ok h n used = eqb (be32 h 20) used && eqb (be32 h 24) (n - used)

-- the check in parts: what the image's length and header say, and all that comes after the header
unfoldable pub head_stage : List ℕ → ℕ
head_stage s = require (stage1 s) 1 (require (stage2 s) 2 (require (stage3 s) 3 0))

unfoldable pub table_stage : List ℕ → ℕ
table_stage s = require (stage6 s) 6 (require (stage7 s) 7 0)

unfoldable pub body_stage : List ℕ → ℕ
body_stage s = first_of (fault_of (visit_root s)) (table_stage s)
