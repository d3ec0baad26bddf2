-- The check (FORMAT.md, 4): "The first stage that is not met gives the number." The paper calls an image that meets all seven sound:
-- check s ≡ 0.
use Rattle.std.specs.Prelude.{ℕ, zero, suc, ◌+◌, ◌-◌, ◌*◌, List, [], ◌∷◌, ◌++◌, Bool, true, false, not, ◌&&◌, ◌||◌, cond, length, take, eqb}
use Rattle.layout.specs.Lists.{within, iff, interval, every, has, distinct, same, joined}
use Rattle.layout.specs.Refusals.{require, first_of}
use Rattle.layout.specs.Bytes.{be32, part}
use Rattle.layout.specs.Limits.{min_blocks, max_blocks, max_directory, max_levels, max_attributes}
use Rattle.layout.specs.Geometry.{signature, block_count, table_blocks, root_block, blocks_for}
use Rattle.layout.specs.Table.{next, chain, chain_ok, occupied, all_ones}
use Rattle.layout.specs.Directory.{slot_at, slots, type_of, first_block, size_of, blocks_of, attribute_block_of, attribute_size_of, self_of, parent_of, is_free, is_file, is_directory, name_of, name_ok, files, directory, dirs}

-- 1. "Length is 512·n with n in range."
unfoldable pub stage1 : List ℕ → Bool
stage1 s = eqb (length s) (512 * block_count s) && within min_blocks max_blocks (block_count s)

-- 2. "Signature and version."
unfoldable pub stage2 : List ℕ → Bool
stage2 s = same (take 12 s) signature

-- 3. "Total, table and root numbers as above."
unfoldable pub stage3 : List ℕ → Bool
stage3 s =
    let n = block_count s in
    eqb (be32 s 12) n && (eqb (be32 s 16) (table_blocks n) && eqb (be32 s 28) (root_block n))

-- 4. "The entry at the start of block t+1 has type 0x01, block_self and block_parent t+1, size_blocks d with 1 ≤ d ≤ 64; the chain from t+1 has
-- exactly d different blocks, all above t and below n, and the last has value 1": of a directory that starts at block b.
unfoldable pub directory_ok : List ℕ → ℕ → ℕ → ℕ → Bool
directory_ok s n b parent =
    let e = 512 * b in
    eqb (type_of s e) 1 && (eqb (self_of s e) b && (eqb (parent_of s e) parent && (within 1 max_directory (blocks_of s e)
    && (chain_ok (next s) n b (blocks_of s e) && distinct eqb (directory s b)))))

-- "A child's stage 4 wants self, name and d as in its entry, its parent's first block as parent": of the child of the directory at block
-- `parent` whose entry is at e
unfoldable pub child_ok : List ℕ → ℕ → ℕ → ℕ → Bool
child_ok s n parent e =
    let b = first_block s e in
    directory_ok s n b parent && (eqb (blocks_of s (512 * b)) (blocks_of s e) && same (part s (512 * b + 48) 80) (part s (e + 48) 80))

-- 5. "Slot 4d−1 has type 0xFF. Each slot from 1 to 4d−2 is free or a file. For a file: a good name, none equal to another; both attribute fields 0;
-- size in blocks = ceil(size/512); first block 0 exactly if the size is 0." "Of a directory entry stage 5 asks a good name, none equal, and
-- attribute fields and size in bytes 0." L6: "Stage 5 looks at the two fields (for files both 0, or block not 0 and size 1 to 8)".
unfoldable pub no_attributes : List ℕ → ℕ → Bool
no_attributes s e = eqb (attribute_block_of s e) 0 && eqb (attribute_size_of s e) 0

unfoldable pub attributes_ok : List ℕ → ℕ → Bool
attributes_ok s e = no_attributes s e || not (eqb (attribute_block_of s e) 0) && within 1 max_attributes (attribute_size_of s e)

unfoldable pub file_ok : List ℕ → ℕ → Bool
file_ok s e =
    name_ok s e && (attributes_ok s e && (eqb (blocks_of s e) (blocks_for (size_of s e)) && iff (eqb (first_block s e) 0) (eqb (size_of s e) 0)))

unfoldable pub directory_entry_ok : List ℕ → ℕ → Bool
directory_entry_ok s e = name_ok s e && (no_attributes s e && eqb (size_of s e) 0)

unfoldable pub slot_ok : List ℕ → ℕ → Bool
slot_ok s e = is_free (type_of s e) || (is_file (type_of s e) && file_ok s e || is_directory (type_of s e) && directory_entry_ok s e)

-- "of equal names the later fails": slot k is free, or no earlier slot that is not free has its name
unfoldable pub new_name : List ℕ → List ℕ → ℕ → Bool
new_name s ds k =
    let e = slot_at ds k in
    is_free (type_of s e) || every (λ j. is_free (type_of s (slot_at ds j)) || not (same (name_of s (slot_at ds j)) (name_of s e))) (interval 1 (k - 1))

-- "The check goes from a directory to its entries and from an entry back to a child directory: stage 4, the end slot, then each slot by
-- stage 5 (of equal names the later fails), a child wholly before the next slot; the first fault met gives 4 or 5." A visit is handed the directory
-- blocks met so far, and gives the fault, or all blocks met then.
pub data Visit : Type 0 where
  fault4 fault5 : Visit
  met : List ℕ → Visit

abbrev pub needs : Bool → Visit → Visit → Visit
needs true fault rest = rest
needs false fault rest = fault

abbrev pub and_then : Visit → (List ℕ → Visit) → Visit
and_then fault4 rest = fault4
and_then fault5 rest = fault5
and_then (met bs) rest = rest bs

-- the slots ks of the directory ds, and its end slot before; `child` visits the child directory of an entry
unfoldable pub visit_slots : (ℕ → List ℕ → Visit) → List ℕ → List ℕ → List ℕ → List ℕ → Visit
visit_slots child s ds [] bs = met bs
visit_slots child s ds (k ∷ ks) bs =
    let e = slot_at ds k in
    let down = child e bs in
    let rest = and_then (cond (is_directory (type_of s e)) down (met bs)) (visit_slots child s ds ks) in
    needs (slot_ok s e && new_name s ds k) fault5 rest

unfoldable pub visit_entries : (ℕ → List ℕ → Visit) → List ℕ → List ℕ → List ℕ → Visit
visit_entries child s ds bs =
    let rest = visit_slots child s ds (slots ds) bs in
    needs (eqb (type_of s (slot_at ds (4 * length ds - 1))) 0xFF) fault5 rest

-- the child of the directory at block `parent` whose entry is at e, with `left` levels left: "no ninth level or directory block met twice"
unfoldable pub visit_child : ℕ → List ℕ → ℕ → ℕ → ℕ → List ℕ → Visit
visit_child zero s n parent e bs = fault4
visit_child (suc left) s n parent e bs =
    let b = first_block s e in
    let ds = directory s b in
    let rest = visit_entries (visit_child left s n b) s ds (bs ++ ds) in
    needs (child_ok s n parent e && every (λ x. not (has eqb x bs)) ds) fault4 rest

unfoldable pub visit_root : List ℕ → Visit
visit_root s =
    let n = block_count s in
    let b = root_block n in
    let rest = visit_entries (visit_child max_levels s n b) s (directory s b) (directory s b) in
    needs (directory_ok s n b b) fault4 rest

abbrev pub fault_of : Visit → ℕ
fault_of fault4 = 4
fault_of fault5 = 5
fault_of (met bs) = 0

-- The chains that own blocks, each a first block and a length: of a file, its own and that of its attributes (L6: "stage 6 at these chains among all
-- others"), of no blocks if it has none; of the directory at block b and its files, in slot order; of the whole tree. And all their blocks.
unfoldable pub file_chains : List ℕ → ℕ → List (ℕ × ℕ)
file_chains s e = (first_block s e, blocks_of s e) ∷ (attribute_block_of s e, attribute_size_of s e) ∷ []

unfoldable pub chains : List ℕ → ℕ → List (ℕ × ℕ)
chains s b = let ds = directory s b in (b, length ds) ∷ joined (λ k. file_chains s (slot_at ds k)) (files s ds)

unfoldable pub all_chains : List ℕ → List (ℕ × ℕ)
all_chains s = joined (λ d. chains s d.0) (dirs s)

unfoldable pub owned : (ℕ → ℕ) → List (ℕ × ℕ) → List ℕ
owned v cs = joined (λ c. chain v c.0 c.1) cs

-- 6. "Each file's chain has exactly its size in blocks, all above t and below n, last value 1. No block stands twice in the root's and files' chains
-- together. Entries 0 to t are 1. Every other entry below n is 0, and so are the table's entries from n on." (The table has 128·t entries.)
unfoldable pub table_ok : (ℕ → ℕ) → ℕ → List (ℕ × ℕ) → Bool
table_ok v n cs =
    let t = table_blocks n in
    let os = owned v cs in
    every (λ c. chain_ok v n c.0 c.1) cs && (distinct eqb os && (all_ones v 0 (t + 1)
    && every (λ b. eqb (v b) 0 || has eqb b os) (interval (t + 1) (128 * t - (t + 1)))))

unfoldable pub stage6 : List ℕ → Bool
stage6 s = table_ok (next s) (block_count s) (all_chains s)

-- 7. "Occupied = number of non-zero entries below n; free = n − occupied."
unfoldable pub stage7 : List ℕ → Bool
stage7 s = let n = block_count s in eqb (be32 s 20) (occupied (next s) n) && eqb (be32 s 24) (n - occupied (next s) n)

unfoldable pub check : List ℕ → ℕ
check s =
    require (stage1 s) 1
    (require (stage2 s) 2
    (require (stage3 s) 3
    (first_of (fault_of (visit_root s))
    (require (stage6 s) 6
    (require (stage7 s) 7 0)))))
