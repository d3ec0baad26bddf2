-- Write, on a sound image (FORMAT.md, 9.2: "Write needs offset ≤ size and puts the data at offset; the file's other bytes stay"). The file is given by the
-- offset e of its entry.
use Rattle.std.specs.Prelude.{ℕ, zero, suc, ◌+◌, ◌-◌, ◌*◌, ◌/◌, ◌%◌, max, List, [], ◌∷◌, ◌++◌, ◌&&◌, length, get_or, take, drop, leb}
use Rattle.layout.specs.Lists.{last_or}
use Rattle.layout.specs.Refusals.{require, first_of}
use Rattle.layout.specs.Bytes.{bytes4, bytes8, part, splice}
use Rattle.layout.specs.Limits.{max_data}
use Rattle.layout.specs.Geometry.{block_count, blocks_for}
use Rattle.layout.specs.Table.{next, free_blocks}
use Rattle.layout.specs.Directory.{size_of, blocks_of, is_file, file_blocks}
use Rattle.layout.specs.Paths.{path_ok, file_refusal, entry_of}
use Rattle.volume.specs.Entries.{grown, entries_named}

-- "New size is the larger of old size and offset + length"; the number of blocks that it needs beyond those of the file
unfoldable pub new_size : List ℕ → ℕ → ℕ → ℕ → ℕ
new_size s e offset count = max (size_of s e) (offset + count)

unfoldable pub needed : List ℕ → ℕ → ℕ → ℕ → ℕ
needed s e offset count = blocks_for (new_size s e offset count) - blocks_of s e

-- the blocks taken, "lowest number first"
unfoldable pub new_blocks : List ℕ → ℕ → ℕ → ℕ → List ℕ
new_blocks s e offset count = take (needed s e offset count) (free_blocks (next s) (block_count s))

-- the data, put at an offset of the bytes that the blocks bs hold in order: in each block the part that falls into it
unfoldable pub put : List ℕ → List ℕ → ℕ → List ℕ → List ℕ
put s [] offset bytes = s
put s (b ∷ bs) offset bytes = put (splice s (512 * b + offset) (take (512 - offset) bytes)) bs (offset - 512) (drop (512 - offset) bytes)

-- "The slot's first block and size in blocks follow", the size, and "Modified time becomes the given one, also for length 0".
unfoldable pub set_file : List ℕ → ℕ → ℕ → ℕ → ℕ → ℕ → List ℕ
set_file s e first size blocks time =
    splice (splice s (e + 4) (bytes4 first ++ (bytes4 size ++ bytes4 blocks))) (e + 24) (bytes8 time)

unfoldable pub write_at : List ℕ → ℕ → ℕ → List ℕ → ℕ → List ℕ
write_at s e offset bytes time =
    let old = file_blocks s e in
    let new = new_blocks s e offset (length bytes) in
    let larger = grown s (block_count s) (last_or 0 old) new in
    set_file (put larger (old ++ new) offset bytes) e (get_or (old ++ new) 0 0) (new_size s e offset (length bytes)) (length (old ++ new)) time

-- the blocks of bs that hold one of `count` bytes written at an offset
unfoldable pub written : List ℕ → ℕ → ℕ → List ℕ
written bs offset zero = []
written bs offset (suc count) = part bs (offset / 512) (blocks_for (offset % 512 + suc count))

-- the table entries that change: of the blocks taken, and of the block that they are linked to (0: there is none)
unfoldable pub changed_entries : ℕ → List ℕ → List ℕ
changed_entries last [] = []
changed_entries zero (b ∷ bs) = b ∷ bs
changed_entries (suc last) (b ∷ bs) = suc last ∷ b ∷ bs

-- named blocks: "the directory block; each block that holds a written byte; if blocks are taken, also block 0 and each table block with a changed
-- entry"
unfoldable pub write_named : List ℕ → ℕ → ℕ → ℕ → List ℕ
write_named s e offset count =
    let old = file_blocks s e in
    let new = new_blocks s e offset count in
    e / 512 ∷ (written (old ++ new) offset count ++ entries_named (changed_entries (last_or 0 old) new))

-- 12 "offset above the file's size", 14 "fewer free blocks than needed"
unfoldable pub write_at_refusal : List ℕ → ℕ → ℕ → ℕ → ℕ
write_at_refusal s e offset count =
    require (leb offset (size_of s e)) 12 (require (leb (needed s e offset count) (length (free_blocks (next s) (block_count s)))) 14 0)

-- 9 "bad name", "data above 4,096 bytes", 17 "more than 8 directories in a path", 10 "no file of that name", then 12 and 14
unfoldable pub write_refusal : List ℕ → List ℕ → ℕ → ℕ → ℕ
write_refusal s path offset count =
    require (leb count max_data && path_ok path) 9
    (first_of (file_refusal s path)
    (write_at_refusal s (entry_of is_file s path) offset count))
