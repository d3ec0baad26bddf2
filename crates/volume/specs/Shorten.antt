-- Shorten, on a sound image (FORMAT.md, "Shorten"): "The file keeps its first ceil(size/512) blocks". The file is given by the offset e of its entry.
use Rattle.std.specs.Prelude.{ℕ, ◌-◌, ◌*◌, ◌/◌, List, [], ◌∷◌, ◌++◌, cond, length, get_or, take, drop, leb, ltb}
use Rattle.layout.specs.Lists.{last_or}
use Rattle.layout.specs.Refusals.{require, first_of}
use Rattle.layout.specs.Bytes.{zeros}
use Rattle.layout.specs.Geometry.{block_count, blocks_for}
use Rattle.layout.specs.Directory.{size_of, is_file, file_blocks}
use Rattle.layout.specs.Paths.{file_refusal, entry_of}
use Rattle.volume.specs.Entries.{linked, released, entries_named}
use Rattle.volume.specs.Write.{put, set_file, written, changed_entries}

-- the blocks that the file keeps, and the others
abbrev pub kept_blocks : List ℕ → ℕ → ℕ → List ℕ
kept_blocks s e size = take (blocks_for size) (file_blocks s e)

abbrev pub cut_blocks : List ℕ → ℕ → ℕ → List ℕ
cut_blocks s e size = drop (blocks_for size) (file_blocks s e)

-- The last blocks bs of a chain are freed, which follow its block `last` (0: they are the whole chain): they "are freed as a delete frees them", and "the last kept one's
-- link becomes 1".
unfoldable pub cut_off : List ℕ → ℕ → ℕ → List ℕ → List ℕ
cut_off s n last [] = s
cut_off s n last (b ∷ bs) = linked (released s n (b ∷ bs)) last 1

-- How many bytes of the last kept block lie "from the new end on" and become 0. If the size stays, these bytes stay too, because that block is not saved then.
unfoldable pub tail_length : (old size : ℕ) → ℕ
tail_length old size = cond (ltb size old) (512 * blocks_for size - size) 0

-- "Size, size in blocks and first block (0 if the size is 0) follow; the modified time becomes the given one; all else stays."
unfoldable pub shorten_at : List ℕ → ℕ → ℕ → ℕ → List ℕ
shorten_at s e size time =
    let kept = kept_blocks s e size in
    let cut = cut_off s (block_count s) (last_or 0 kept) (cut_blocks s e size) in
    set_file (put cut kept size (zeros (tail_length (size_of s e) size))) e (get_or kept 0 0) size (length kept) time

-- saved blocks: "the directory block; if the size falls and is no multiple of 512, the block of the new end; the freed blocks; if any is freed, block 0 and each table
-- block with a link of a freed block or of the last kept one"
unfoldable pub shorten_named : List ℕ → ℕ → ℕ → List ℕ
shorten_named s e size =
    let kept = kept_blocks s e size in
    let freed = cut_blocks s e size in
    e / 512 ∷ (written kept size (tail_length (size_of s e) size) ++ (freed ++ entries_named (changed_entries (last_or 0 kept) freed)))

-- 9, 17, 10, then 12, the size is above the file's
unfoldable pub shorten_refusal : List ℕ → List ℕ → ℕ → ℕ
shorten_refusal s path size = first_of (file_refusal s path) (require (leb size (size_of s (entry_of is_file s path))) 12 0)
