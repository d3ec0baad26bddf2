-- Directories (document 02, L4): their changes and looks by paths, every refusal of theirs, and every fault of the check in a tree. One table in five
-- parts, proved by computing the definitions.
use Prim.Native.Nat.{ℕ, zero, suc}
use mathlib.Core.List.{List, [], ◌∷◌, ◌++◌, map}
use lib.ListN.{replicate}
use Rattle.layout.specs.Bytes.{be32, bytes4, splice, block}
use Rattle.layout.specs.Table.{next, set_next}
use Rattle.layout.specs.Directory.{dirs}
use Rattle.layout.specs.Check.{check}
use Rattle.layout.specs.Paths.{file_refusal}
use Rattle.layout.specs.Listing.{listing}
use Rattle.store.specs.Change.{Change, create, write, delete, create_directory, delete_directory, named, refusal, after}
use Rattle.journal.specs.Journal.{started, ascending}
use Rattle.journal.specs.Run.{change, undo, look, find_file, State, step, answer}
use Rattle.samples.proofs.Rules.{rules}
use Rattle.samples.proofs.Samples.{AsExpected, formatted_as, pattern, numbers, samples}

-- the path of one-byte names, and the changes on it
way : List ℕ → List ℕ
way [] = []
way (x ∷ xs) = 47 ∷ x ∷ way xs

file : List ℕ → Change
file xs = create (way xs) 0x60 1 2 3 0 2000

folder : List ℕ → ℕ → Change
folder xs d = create_directory (way xs) 0x20 1 2 3 0 2000 d

-- n = 9, root of one block, 2; directory /D (68) of two blocks, 3 and 4, its entry at 1,152; file /D/A (65) of 513 bytes in blocks 5 and 6, its entry
-- at 1,664; directory /E (69) of one block, 7, its entry at 1,280; block 8 is free. (A table computes it once, in a `let`.)
image : List ℕ
image =
    let s = after (after (formatted_as 9 1) (folder (68 ∷ []) 2)) (file (68 ∷ 65 ∷ [])) in
    after (after s (write (way (68 ∷ 65 ∷ [])) 0 (pattern 513) 3000)) (folder (69 ∷ []) 1)

-- what the changes answer and leave
pub built : List (List ℕ × List ℕ)
built =
    let q₀ : State = record { image = formatted_as 9 1; journal = started 9900 } in
    let q₁ = step q₀ (change (folder (68 ∷ []) 2)) in
    let q₂ = step q₁ (change (file (68 ∷ 65 ∷ []))) in
    let q₃ = step q₂ (change (write (way (68 ∷ 65 ∷ [])) 0 (pattern 513) 3000)) in
    let q₄ = step q₃ (change (folder (69 ∷ []) 1)) in
    let gone = step q₄ (change (delete_directory (way (69 ∷ [])))) in
    let back = step q₄ undo in
    -- a directory of two blocks: its slot, a record of its blocks and of blocks 0, 1 and 2; a file in it; a write; a directory of one block
    (numbers (answer q₀ (change (folder (68 ∷ []) 2))) ++ ascending 9 (named q₀.image (folder (68 ∷ []) 2)), 0 ∷ 1 ∷ 2584 ∷ 0 ∷ 1 ∷ 2 ∷ 3 ∷ 4 ∷ [])
    ∷ (numbers (answer q₁ (change (file (68 ∷ 65 ∷ [])))) ++ ascending 9 (named q₁.image (file (68 ∷ 65 ∷ []))), 0 ∷ 1 ∷ 520 ∷ 3 ∷ [])
    ∷ (numbers (answer q₂ (change (write (way (68 ∷ 65 ∷ [])) 0 (pattern 513) 3000))), 0 ∷ 0 ∷ 2584 ∷ [])
    ∷ (numbers (answer q₃ (change (folder (69 ∷ []) 1))), 0 ∷ 2 ∷ 2068 ∷ [])
    -- table, counts and tree
    ∷ (map (next q₄.image) (3 ∷ 4 ∷ 5 ∷ 6 ∷ 7 ∷ 8 ∷ []) ++ (be32 q₄.image 20 ∷ be32 q₄.image 24 ∷ check q₄.image ∷ []), 4 ∷ 1 ∷ 6 ∷ 1 ∷ 1 ∷ 0 ∷ 8 ∷ 1 ∷ 0 ∷ [])
    ∷ (map (λ d. d.0) (dirs q₄.image) ++ map (λ d. d.1) (dirs q₄.image), 2 ∷ 3 ∷ 7 ∷ 8 ∷ 7 ∷ 7 ∷ [])
    -- look up by a path; the lister shows the root's files only: "blocks 9 used 8 free 1"
    ∷ (numbers (answer q₄ (look (find_file (way (68 ∷ 65 ∷ []))))), 0 ∷ 1 ∷ 513 ∷ 2 ∷ [])
    ∷ (listing q₄.image, 98 ∷ 108 ∷ 111 ∷ 99 ∷ 107 ∷ 115 ∷ 32 ∷ 57 ∷ 32 ∷ 117 ∷ 115 ∷ 101 ∷ 100 ∷ 32 ∷ 56 ∷ 32 ∷ 102 ∷ 114 ∷ 101 ∷ 101 ∷ 32 ∷ 49 ∷ 10 ∷ [])
    -- an empty directory is deleted: a record of blocks 0, 1, 2 and of its block, which is free again and zero
    ∷ (numbers (answer q₄ (change (delete_directory (way (69 ∷ []))))), 0 ∷ 0 ∷ 2068 ∷ [])
    ∷ (block gone.image 7, replicate 512 0)
    ∷ (next gone.image 7 ∷ be32 gone.image 20 ∷ check gone.image ∷ map (λ d. d.0) (dirs gone.image), 0 ∷ 7 ∷ 0 ∷ 2 ∷ 3 ∷ [])
    -- undo of a created directory: image and journal as before
    ∷ (numbers (answer q₄ undo), 0 ∷ 2068 ∷ [])
    ∷ (back.image, q₃.image)
    ∷ (back.journal, q₃.journal)
    -- the image that the other parts are about
    ∷ (q₄.image, image)
    ∷ []

-- paths: 9, 10, 17
pub paths : List (List ℕ × List ℕ)
paths =
    let s = image in
    -- a file of a directory; a directory where a file is wanted; no such part; through a missing part; through a file
    (map (file_refusal s) (way (68 ∷ 65 ∷ []) ∷ way (68 ∷ []) ∷ way (65 ∷ []) ∷ way (88 ∷ 65 ∷ []) ∷ way (68 ∷ 65 ∷ 65 ∷ []) ∷ []), 0 ∷ 10 ∷ 10 ∷ 10 ∷ 10 ∷ [])
    -- nothing, no `/` before, `/` alone, an empty part before, at the end and between
    ∷ (map (file_refusal s) ([] ∷ (65 ∷ []) ∷ (47 ∷ []) ∷ (47 ∷ 47 ∷ 65 ∷ []) ∷ (47 ∷ 68 ∷ 47 ∷ []) ∷ (47 ∷ 68 ∷ 47 ∷ 47 ∷ 65 ∷ []) ∷ []), 9 ∷ 9 ∷ 9 ∷ 9 ∷ 9 ∷ 9 ∷ [])
    -- a name that begins with the one that is there, and the reverse
    ∷ (map (file_refusal s) ((47 ∷ 68 ∷ 47 ∷ 65 ∷ 65 ∷ []) ∷ (47 ∷ 68 ∷ 68 ∷ 47 ∷ 65 ∷ []) ∷ []), 10 ∷ 10 ∷ [])
    -- eight directories before a file are not too many, nine are; in directory calls the last part counts; 9 comes before 17
    ∷ (map (file_refusal s) (way (replicate 9 68) ∷ way (replicate 10 68) ∷ (way (replicate 10 68) ++ (47 ∷ [])) ∷ []), 10 ∷ 17 ∷ 9 ∷ [])
    ∷ (
      map (refusal s) (delete_directory (way (replicate 8 68)) ∷ delete_directory (way (replicate 9 68)) ∷ folder (replicate 8 68) 1 ∷ folder (replicate 9 68) 1 ∷ folder (replicate 9 68) 0 ∷ []),
      10 ∷ 17 ∷ 10 ∷ 17 ∷ 9 ∷ [],
    )
    ∷ []

-- the changes: their refusals
pub refused : List (List ℕ × List ℕ)
refused =
    let s = image in
    -- 9: a file's type, the types beside 0x20 to 0x5F, no block, 65 blocks
    (map (λ type. refusal s (create_directory (way (69 ∷ 70 ∷ [])) type 1 2 3 0 2000 1)) (0x60 ∷ 0x1F ∷ 0x20 ∷ 0x5F ∷ []), 9 ∷ 9 ∷ 0 ∷ 0 ∷ [])
    ∷ (map (λ d. refusal s (folder (69 ∷ 70 ∷ []) d)) (0 ∷ 65 ∷ []), 9 ∷ 9 ∷ [])
    -- 10: through a missing part and through a file; a file's call on a directory and the reverse
    ∷ (map (refusal s) (file (88 ∷ 65 ∷ []) ∷ folder (68 ∷ 65 ∷ 66 ∷ []) 1 ∷ write (way (68 ∷ [])) 0 [] 5 ∷ delete (way (68 ∷ [])) ∷ delete_directory (way (68 ∷ 65 ∷ [])) ∷ []), 10 ∷ 10 ∷ 10 ∷ 10 ∷ 10 ∷ [])
    -- 11: over a directory and over a file
    ∷ (map (refusal s) (file (68 ∷ []) ∷ folder (68 ∷ []) 1 ∷ folder (68 ∷ 65 ∷ []) 1 ∷ []), 11 ∷ 11 ∷ 11 ∷ [])
    -- 13: a directory of one block has two slots
    ∷ (map (refusal s) (file (70 ∷ []) ∷ folder (70 ∷ []) 1 ∷ folder (70 ∷ []) 64 ∷ []), 13 ∷ 13 ∷ 13 ∷ [])
    -- 14: one block is free
    ∷ (map (λ d. refusal s (folder (69 ∷ 70 ∷ []) d)) (1 ∷ 2 ∷ 64 ∷ []), 0 ∷ 14 ∷ 14 ∷ [])
    -- 18: not empty, by a file and by a directory; empty again
    ∷ (refusal s (delete_directory (way (68 ∷ []))) ∷ refusal (after s (folder (69 ∷ 69 ∷ []) 1)) (delete_directory (way (69 ∷ []))) ∷ refusal (after s (delete (way (68 ∷ 65 ∷ [])))) (delete_directory (way (68 ∷ []))) ∷ [], 18 ∷ 18 ∷ 0 ∷ [])
    ∷ []

-- the check: each damage of a tree, and the number it gives
pub faults : List (List ℕ × List ℕ)
faults =
    let s = image in
    let wide = set_next (splice (splice s 3596 (bytes4 2)) 1292 (bytes4 2)) 7 4 in
    -- 4, of the child's self entry: type, block_self, block_parent, d, name
    (map check (splice s 1536 (0 ∷ []) ∷ splice s 1540 (bytes4 4) ∷ splice s 1544 (bytes4 3) ∷ splice s 1548 (bytes4 1) ∷ splice s 1584 (69 ∷ []) ∷ []), 4 ∷ 4 ∷ 4 ∷ 4 ∷ 4 ∷ [])
    -- 4, of its entry: d, a first block past the image, the header for a first block; of its chain: too short, looping
    ∷ (map check (splice s 1164 (bytes4 1) ∷ splice s 1156 (bytes4 9) ∷ splice s 1156 (bytes4 0) ∷ set_next s 3 1 ∷ set_next s 4 3 ∷ []), 4 ∷ 4 ∷ 4 ∷ 4 ∷ 4 ∷ [])
    -- 4: a directory block met twice; 6: one that a file's chain has, and a directory that no entry has
    ∷ (map check (wide ∷ set_next s 5 4 ∷ splice s 1280 (0 ∷ []) ∷ []), 4 ∷ 6 ∷ 6 ∷ [])
    -- 5: the child's end type; of its entry: size in bytes, attribute fields; `/` in the name of a directory and of a file
    ∷ (map check (splice s 2432 (0 ∷ []) ∷ splice s 1160 (bytes4 1) ∷ splice s 1184 (bytes4 1) ∷ splice s 1188 (bytes4 1) ∷ []), 5 ∷ 5 ∷ 5 ∷ 5 ∷ [])
    ∷ (map check (splice s 1200 (47 ∷ []) ∷ splice s 1712 (47 ∷ []) ∷ []), 5 ∷ 5 ∷ [])
    -- 5: two equal names in one directory; in two directories they may be equal
    ∷ (check (splice s 1328 (68 ∷ [])) ∷ check (after s (file (69 ∷ 65 ∷ []))) ∷ [], 5 ∷ 0 ∷ [])
    -- "a child wholly before the next slot; the first fault met gives 4 or 5"
    ∷ (map check (splice (splice s 1536 (0 ∷ [])) 1288 (bytes4 1) ∷ splice (splice s 1160 (bytes4 1)) 3584 (0 ∷ []) ∷ splice (splice s 2432 (0 ∷ [])) 3584 (0 ∷ []) ∷ []), 4 ∷ 5 ∷ 5 ∷ [])
    ∷ []

-- k levels, one directory of one block in the other, from block 3 on; the eighth, at block 10, has its first slot at 5,248
deep : ℕ → List ℕ
deep zero = formatted_as 12 1
deep (suc k) = after (deep k) (folder (replicate (suc k) 65) 1)

pub levels : List (List ℕ × List ℕ)
levels =
    let s = deep 8 in
    let ninth = after s (folder (replicate 9 65) 1) in
    (check s ∷ map (λ d. d.0) (dirs s), 0 ∷ 2 ∷ 3 ∷ 4 ∷ 5 ∷ 6 ∷ 7 ∷ 8 ∷ 9 ∷ 10 ∷ [])
    -- a file below eight directories, and a ninth directory
    ∷ (map (refusal s) (file (replicate 9 65) ∷ folder (replicate 9 65) 1 ∷ []), 0 ∷ 17 ∷ [])
    -- a ninth level, right in all else: 4; if its entry fails stage 5, that comes first
    ∷ (check ninth ∷ check (splice ninth 5256 (bytes4 1)) ∷ [], 4 ∷ 5 ∷ [])
    ∷ []

built-holds : AsExpected built
unfolding built image way file folder samples rules
built-holds = tt

paths-hold : AsExpected paths
unfolding paths image way file folder samples rules
paths-hold = tt

refused-hold : AsExpected refused
unfolding refused image way file folder samples rules
refused-hold = tt

faults-hold : AsExpected faults
unfolding faults image way file folder samples rules
faults-hold = tt

levels-hold : AsExpected levels
unfolding levels deep way file folder samples rules
levels-hold = tt

pub tree-cases : AsExpected built × AsExpected paths × AsExpected refused × AsExpected faults × AsExpected levels
tree-cases = (built-holds, paths-hold, refused-hold, faults-hold, levels-hold)
