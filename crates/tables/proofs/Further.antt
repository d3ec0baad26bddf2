-- Cases beyond document 01's: every stage of the check, every refusal number from 1 to 16, and the calls' other branches. One table in seven parts,
-- proved by computing the definitions (a part is as much as one declaration may compute).
use Prim.Native.Nat.{ℕ}
use mathlib.Core.List.{List, [], ◌∷◌, ◌++◌, map}
use mathlib.Core.Bool.{Bool, true, false}
use lib.ListN.{replicate, take, drop}
use Rattle.layout.specs.Lists.{interval}
use Rattle.layout.specs.Bytes.{be32, bytes4, splice, block}
use Rattle.layout.specs.Table.{next, set_next}
use Rattle.layout.specs.Check.{check}
use Rattle.layout.specs.Listing.{listing}
use Rattle.volume.specs.Entries.{set_occupied}
use Rattle.volume.specs.Format.{format_refusal, formatted}
use Rattle.store.specs.Change.{create, write, delete, clear_flags, shorten, replace, named, refusal, after}
use Rattle.journal.specs.Journal.{started, start_refusal, well_formed, ascending}
use Rattle.journal.specs.Run.{Look, change, undo, look, check_image, find_file, read_file, look_at, State, step, answer, change_refusal, undo_refusal}
use Rattle.samples.proofs.Rules.{rules}
use Rattle.samples.proofs.Samples.{AsExpected, blank, label, formatted_as, pattern, in_root, file_a, create_file, write_a, numbers, samples}

bit : Bool → ℕ
bit true = 1
bit false = 0

-- n = 8, d = 2: root blocks 2 and 3, file A of 513 bytes in slot 1 (at 1,152) and blocks 4 and 5, blocks 6 and 7 free; record of the write at 525
-- (A table computes it once, in a `let`.)
image : List ℕ
image = after (after (formatted_as 8 2) (create_file 65)) (write_a 0 513)

-- the states of the two calls that make it
p₁ : State
p₁ = step (record { image = formatted_as 8 2; journal = started 8800 }) (change (create_file 65))

with513 : State → State
with513 p = step p (change (write_a 0 513))

-- check each image
checks : List (List ℕ) → List ℕ
checks images = map check images

-- the stages: each damage, and the number it gives
pub stages : List (List ℕ × List ℕ)
stages =
    let s = image in
    let both = after (after s (create_file 66)) (write (in_root 66) 0 (pattern 10) 9) in
    (checks (s ∷ both ∷ []), 0 ∷ 0 ∷ [])
    -- 1: an odd length, two blocks, nothing
    ∷ (checks (drop 1 s ∷ take 1024 s ∷ [] ∷ []), 1 ∷ 1 ∷ 1 ∷ [])
    -- 2: signature, version
    ∷ (checks (splice s 0 (0 ∷ []) ∷ splice s 11 (1 ∷ []) ∷ []), 2 ∷ 2 ∷ [])
    -- 3: total, table and root numbers
    ∷ (checks (splice s 12 (bytes4 9) ∷ splice s 16 (bytes4 2) ∷ splice s 28 (bytes4 3) ∷ []), 3 ∷ 3 ∷ 3 ∷ [])
    -- 4: type, block_self, block_parent, d of 0 and 65
    ∷ (
      checks (splice s 1024 (0 ∷ []) ∷ splice s 1028 (bytes4 3) ∷ splice s 1032 (bytes4 3) ∷ splice s 1036 (bytes4 0) ∷ splice s 1036 (bytes4 65) ∷ []),
      4 ∷ 4 ∷ 4 ∷ 4 ∷ 4 ∷ [],
    )
    -- 4: the chain too short, too long, looping, through the header, out of the image
    ∷ (checks (set_next s 2 1 ∷ set_next s 3 6 ∷ set_next s 3 2 ∷ set_next s 2 0 ∷ set_next s 2 8 ∷ []), 4 ∷ 4 ∷ 4 ∷ 4 ∷ 4 ∷ [])
    -- 5: end type; directory types 0x20, 0x5F with a size in bytes; types 0xA0, 0xFF; an attribute block and size
    ∷ (
      checks (splice s 1920 (0 ∷ []) ∷ splice s 1152 (0x20 ∷ []) ∷ splice s 1152 (0x5F ∷ []) ∷ splice s 1152 (0xA0 ∷ []) ∷ splice s 1280 (0xFF ∷ []) ∷ []),
      5 ∷ 5 ∷ 5 ∷ 5 ∷ 5 ∷ [],
    )
    ∷ (checks (splice s 1184 (bytes4 1) ∷ splice s 1188 (bytes4 1) ∷ []), 5 ∷ 5 ∷ [])
    -- 5: no name; a byte after the name; two equal names; names of 80 and of 79 bytes are good
    ∷ (
      checks (splice s 1200 (0 ∷ []) ∷ splice s 1205 (1 ∷ []) ∷ splice both 1328 (65 ∷ []) ∷ splice s 1200 (replicate 80 66) ∷ splice s 1200 (replicate 79 66) ∷ []),
      5 ∷ 5 ∷ 5 ∷ 0 ∷ 0 ∷ [],
    )
    -- 5: size in blocks; first block 0 with a size, and not 0 without
    ∷ (checks (splice s 1160 (bytes4 1025) ∷ splice s 1156 (bytes4 0) ∷ splice s 1160 (bytes4 0 ++ bytes4 0) ∷ []), 5 ∷ 5 ∷ 5 ∷ [])
    -- 6: a file's chain looping, too short, into the root, into another file; an orphan; a used entry past n; entries 0 and t
    ∷ (checks (set_next s 5 4 ∷ set_next s 4 1 ∷ set_next s 4 3 ∷ set_next both 6 5 ∷ []), 6 ∷ 6 ∷ 6 ∷ 6 ∷ [])
    ∷ (checks (set_next s 7 1 ∷ set_next s 8 1 ∷ set_next s 127 1 ∷ set_next s 0 0 ∷ set_next s 1 0 ∷ []), 6 ∷ 6 ∷ 6 ∷ 6 ∷ 6 ∷ [])
    -- 6: the last block of A is B's too, and all else is right: B's own block is free again, and the counts say so
    ∷ (check (set_occupied (set_next (splice both 1284 (bytes4 5)) 6 0) 8 6) ∷ [], 6 ∷ [])
    -- 7: the counts; and of two faults the lower number
    ∷ (checks (splice s 20 (bytes4 7) ∷ splice s 24 (bytes4 7) ∷ splice (splice s 20 (bytes4 7)) 28 (bytes4 3) ∷ []), 7 ∷ 7 ∷ 3 ∷ [])
    -- not looked at: the header from 32 on, flags, free slots, free blocks, the file's last block past its size
    ∷ (checks (splice (splice s 32 (pattern 480)) 1192 (bytes4 3) ∷ splice s 1409 (pattern 127) ∷ splice s 3072 (pattern 512) ∷ splice s 2561 (pattern 511) ∷ []), 0 ∷ 0 ∷ 0 ∷ 0 ∷ [])
    ∷ []

-- the calls that only look
pub looks : List (List ℕ × List ℕ)
looks =
    let s = image in
    let p : State = record { image = s; journal = [] } in
    let looked : Look → List ℕ = λ l. numbers (answer p (look l)) in
    (looked (find_file file_a) ++ looked (find_file (47 ∷ 65 ∷ 66 ∷ [])), 0 ∷ 1 ∷ 513 ∷ 2 ∷ 10 ∷ 0 ∷ 0 ∷ 0 ∷ [])
    -- names: none, 81 bytes, 80, with a zero in it
    ∷ (
      looked (find_file []) ++ looked (find_file (47 ∷ replicate 81 65)) ++ looked (find_file (47 ∷ replicate 80 65)) ++ looked (find_file (47 ∷ 65 ∷ 0 ∷ [])),
      9 ∷ 0 ∷ 0 ∷ 0 ∷ 9 ∷ 0 ∷ 0 ∷ 0 ∷ 10 ∷ 0 ∷ 0 ∷ 0 ∷ 9 ∷ 0 ∷ 0 ∷ 0 ∷ [],
    )
    -- read across blocks to the end, at the end, past it, into no buffer, of no file
    ∷ (looked (read_file file_a 510 (replicate 5 7)), 0 ∷ 3 ∷ 8 ∷ 9 ∷ 10 ∷ 7 ∷ 7 ∷ [])
    ∷ (looked (read_file file_a 0 (replicate 600 7)), 0 ∷ 513 ∷ (pattern 513 ++ replicate 87 7))
    ∷ (
      looked (read_file file_a 513 (7 ∷ [])) ++ looked (read_file file_a 514 (7 ∷ [])) ++ looked (read_file file_a 3 []) ++ looked (read_file (in_root 66) 0 (7 ∷ [])),
      0 ∷ 0 ∷ 7 ∷ 12 ∷ 0 ∷ 7 ∷ 0 ∷ 0 ∷ 10 ∷ 0 ∷ 7 ∷ [],
    )
    -- look in place: a whole block, the rest of the last, none, no file
    ∷ (looked (look_at file_a 0), 2048 ∷ 512 ∷ pattern 512)
    ∷ (looked (look_at file_a 1) ++ looked (look_at file_a 2) ++ looked (look_at (in_root 66) 0), 2560 ∷ 1 ∷ 10 ∷ 0 ∷ 0 ∷ 0 ∷ 0 ∷ [])
    -- on a damaged image: its stage; and its listing, "refused 2"
    ∷ (
      let bad : State = record { image = splice s 0 (0 ∷ []); journal = [] } in
          numbers (answer bad (look check_image)) ++ numbers (answer bad (look (find_file []))) ++ numbers (answer bad (look (read_file file_a 0 (7 ∷ [])))) ++ numbers (answer bad (look (look_at file_a 0))),
      2 ∷ 2 ∷ 0 ∷ 0 ∷ 0 ∷ 2 ∷ 0 ∷ 7 ∷ 0 ∷ 0 ∷ [],
    )
    ∷ (listing (splice s 0 (0 ∷ [])), 114 ∷ 101 ∷ 102 ∷ 117 ∷ 115 ∷ 101 ∷ 100 ∷ 32 ∷ 50 ∷ 10 ∷ [])
    -- a name byte outside 0x21 to 0x7E is listed as `?`: "1 513 2 ?"
    ∷ (drop 23 (listing (splice s 1200 (32 ∷ []))), 49 ∷ 32 ∷ 53 ∷ 49 ∷ 51 ∷ 32 ∷ 50 ∷ 32 ∷ 63 ∷ 10 ∷ [])
    ∷ []

-- format and start: refusals, and that a refused format changes nothing
pub starts : List (List ℕ × List ℕ)
starts =
    (map (λ d. format_refusal (blank 4) d label) (0 ∷ 1 ∷ 2 ∷ 3 ∷ 64 ∷ 65 ∷ []), 9 ∷ 0 ∷ 0 ∷ 14 ∷ 14 ∷ 9 ∷ [])
    ∷ (format_refusal (7 ∷ []) 0 [] ∷ format_refusal (blank 4) 1 [] ∷ format_refusal (blank 4) 9 (7 ∷ label) ∷ [], 1 ∷ 9 ∷ 9 ∷ [])
    ∷ (formatted (blank 3) 2 (interval 1 16) label 1000, blank 3)
    ∷ (check (formatted_as 4 2) ∷ be32 (formatted_as 4 2) 20 ∷ be32 (formatted_as 4 2) 24 ∷ [], 0 ∷ 4 ∷ 0 ∷ [])
    ∷ (start_refusal (replicate 4 7) ∷ start_refusal (replicate 5 7) ∷ [], 8 ∷ 0 ∷ [])
    ∷ (started 7, 1 ∷ 0 ∷ 0 ∷ 0 ∷ 5 ∷ 0 ∷ 0 ∷ [])
    ∷ []

-- the changes: refusals in their order, named blocks, undo
pub changes : List (List ℕ × List ℕ)
changes =
    let first = p₁ in
    let p₂ = with513 first in
    let s = p₂.image in
    let gone = step p₂ (change (delete file_a)) in
    let back = step gone undo in
    let again = step (step gone (change (create_file 66))) (change (write (in_root 66) 0 (pattern 600) 9)) in
    let full = after (after (after (after (after s (create_file 66)) (create_file 67)) (create_file 68)) (create_file 69)) (create_file 70) in
    let short : State = record { image = s; journal = started 525 } in
    -- delete: a record of blocks 0, 1, 2 and of the freed ones, which are zero then; and undo of it: image and journal as before
    (numbers (answer p₂ (change (delete file_a))) ++ ascending 8 (named s (delete file_a)), 0 ∷ 0 ∷ 2584 ∷ 0 ∷ 1 ∷ 2 ∷ 4 ∷ 5 ∷ [])
    ∷ (block gone.image 4 ++ block gone.image 5, replicate 1024 0)
    ∷ (map (next gone.image) (interval 0 6) ++ (be32 gone.image 20 ∷ be32 gone.image 24 ∷ check gone.image ∷ []), 1 ∷ 1 ∷ 3 ∷ 1 ∷ 0 ∷ 0 ∷ 4 ∷ 4 ∷ 0 ∷ [])
    ∷ (numbers (answer gone undo), 0 ∷ 2584 ∷ [])
    ∷ (back.image, s)
    ∷ (back.journal, p₂.journal)
    -- the image that the other parts are about
    ∷ (s, image)
    -- a freed block is taken again, lowest first
    ∷ (map (next again.image) (4 ∷ 5 ∷ 6 ∷ []) ++ (check again.image ∷ []), 5 ∷ 1 ∷ 0 ∷ 0 ∷ [])
    -- named blocks of a write within the file, of no bytes, across two blocks, and of one that takes a block
    ∷ (
      ascending 8 (named s (write_a 100 1)) ++ ascending 8 (named s (write_a 100 0)) ++ ascending 8 (named s (write_a 511 2)) ++ ascending 8 (named s (write_a 513 600)),
      2 ∷ 4 ∷ 2 ∷ 2 ∷ 4 ∷ 5 ∷ 0 ∷ 1 ∷ 2 ∷ 5 ∷ 6 ∷ [],
    )
    -- a write of no bytes: a record of 520, and the time
    ∷ (numbers (answer p₂ (change (write file_a 0 [] 77))) ++ (be32 (after s (write file_a 0 [] 77)) 1180 ∷ []), 0 ∷ 0 ∷ 520 ∷ 77 ∷ [])
    -- flags (L11): 3 is cleared, no other byte changes, also where they are 0, and the directory block is named; 26 before 11, after 9
    ∷ (after (splice s 1192 (bytes4 3)) (clear_flags file_a), s)
    ∷ (numbers (answer p₂ (change (clear_flags file_a))) ++ named s (clear_flags file_a), 0 ∷ 0 ∷ 520 ∷ 2 ∷ [])
    -- 9: name, type, data; 10; 11; 12
    ∷ (map (refusal s) (create [] 0x60 1 2 3 4 5 ∷ create (in_root 66) 0x9F 1 2 3 0 5 ∷ create (in_root 66) 0xA0 1 2 3 4 5 ∷ create (in_root 66) 0x9F 1 2 3 4 5 ∷ create file_a 0x60 1 2 3 4 5 ∷ []), 9 ∷ 0 ∷ 9 ∷ 26 ∷ 26 ∷ [])
    ∷ (map (refusal s) (write_a 600 4097 ∷ write (in_root 66) 0 [] 5 ∷ write_a 514 0 ∷ delete [] ∷ delete (in_root 66) ∷ create_file 65 ∷ []), 9 ∷ 10 ∷ 12 ∷ 9 ∷ 10 ∷ 11 ∷ [])
    -- 13; 14, at the last free block and past it
    ∷ (check full ∷ refusal full (create_file 71) ∷ refusal full (create_file 70) ∷ refusal s (write_a 513 1535) ∷ refusal s (write_a 513 1536) ∷ [], 0 ∷ 13 ∷ 11 ∷ 0 ∷ 14 ∷ [])
    -- 15: 525 bytes take one record of 520; 14 comes before it, 9 before both, 8 before 9, a stage before 8
    ∷ (change_refusal short (create_file 66) ∷ change_refusal (step short (change (create_file 66))) (create_file 67) ∷ change_refusal short (write_a 0 1) ∷ [], 0 ∷ 15 ∷ 15 ∷ [])
    ∷ (
      change_refusal short (write_a 513 1536) ∷ change_refusal short (delete []) ∷ change_refusal (record { image = s; journal = [] }) (delete []) ∷ change_refusal (record { image = []; journal = [] }) (delete []) ∷ [],
      14 ∷ 9 ∷ 8 ∷ 1 ∷ [],
    )
    -- undo: 16, 8, 1; another image's journal puts its blocks back all the same
    ∷ (undo_refusal short ∷ undo_refusal (record { image = s; journal = [] }) ∷ undo_refusal (record { image = []; journal = started 5 }) ∷ [], 16 ∷ 8 ∷ 1 ∷ [])
    ∷ ((step (record { image = formatted_as 8 1; journal = first.journal }) undo).image, splice (formatted_as 8 1) 1024 (take 512 (drop 1024 (formatted_as 8 2))))
    ∷ []

-- the numbers of file A, its modified time, the counts, the links of blocks 4 to 6, and the check
numbers_of : List ℕ → List ℕ
numbers_of s = map (be32 s) (1156 ∷ 1160 ∷ 1164 ∷ 1180 ∷ 20 ∷ 24 ∷ []) ++ (map (next s) (4 ∷ 5 ∷ 6 ∷ []) ++ (check s ∷ []))

-- shorten, of the 513 bytes of file A
pub shortens : List (List ℕ × List ℕ)
shortens =
    let s = image in
    let p : State = record { image = s; journal = started 2600 } in
    let to : ℕ → List ℕ = λ size. after s (shorten file_a size 77) in
    let saved : ℕ → List ℕ = λ size. numbers (answer p (change (shorten file_a size 77))) ++ ascending 8 (named s (shorten file_a size 77)) in
    let one = to 1 in
    let whole = to 512 in
    let behind = splice s 2561 (7 ∷ []) in
    let short : State = record { image = s; journal = started 525 } in
    -- to 0: both blocks are freed
    (saved 0, 0 ∷ 0 ∷ 2584 ∷ 0 ∷ 1 ∷ 2 ∷ 4 ∷ 5 ∷ [])
    ∷ (numbers_of (to 0), 0 ∷ 0 ∷ 0 ∷ 77 ∷ 4 ∷ 4 ∷ 0 ∷ 0 ∷ 0 ∷ 0 ∷ [])
    -- to 1: block 4 is the block of the new end; 5 is freed
    ∷ (saved 1, 0 ∷ 0 ∷ 2584 ∷ 0 ∷ 1 ∷ 2 ∷ 4 ∷ 5 ∷ [])
    ∷ (numbers_of one, 4 ∷ 1 ∷ 1 ∷ 77 ∷ 5 ∷ 3 ∷ 1 ∷ 0 ∷ 0 ∷ 0 ∷ [])
    ∷ (block one 4 ++ block one 5, pattern 1 ++ replicate 1023 0)
    ∷ ((step (step p (change (shorten file_a 1 77))) undo).image, s)
    -- to 512: block 4 ends there, and is not saved
    ∷ (saved 512, 0 ∷ 0 ∷ 2068 ∷ 0 ∷ 1 ∷ 2 ∷ 5 ∷ [])
    ∷ (numbers_of whole, 4 ∷ 512 ∷ 1 ∷ 77 ∷ 5 ∷ 3 ∷ 1 ∷ 0 ∷ 0 ∷ 0 ∷ [])
    ∷ (block whole 4 ++ block whole 5, pattern 512 ++ replicate 512 0)
    -- to 513, its size: a record of 520, and only the time changes; what stands behind the end stays
    ∷ (saved 513, 0 ∷ 0 ∷ 520 ∷ 2 ∷ [])
    ∷ (to 513, splice s 1180 (bytes4 77))
    ∷ (after behind (shorten file_a 513 77), splice behind 1180 (bytes4 77))
    -- 12, 9, 10; 15
    ∷ (map (refusal s) (shorten file_a 514 1 ∷ shorten [] 514 1 ∷ shorten (in_root 66) 0 1 ∷ []), 12 ∷ 9 ∷ 10 ∷ [])
    ∷ (map (change_refusal short) (shorten file_a 513 1 ∷ shorten file_a 512 1 ∷ shorten file_a 514 1 ∷ []), 0 ∷ 15 ∷ 12 ∷ [])
    ∷ []

-- replace, of the 513 bytes of file A
pub replaces : List (List ℕ × List ℕ)
replaces =
    let s = image in
    let p : State = record { image = s; journal = started 3700 } in
    let three : List ℕ = 51 ∷ 48 ∷ 48 ∷ [] in
    let small = step p (change (replace file_a three 77)) in
    -- by 3 bytes: block 4 stays, 5 is freed; undo of it
    (numbers (answer p (change (replace file_a three 77))) ++ ascending 8 (named s (replace file_a three 77)), 0 ∷ 0 ∷ 2584 ∷ 0 ∷ 1 ∷ 2 ∷ 4 ∷ 5 ∷ [])
    ∷ (numbers_of small.image, 4 ∷ 3 ∷ 1 ∷ 77 ∷ 5 ∷ 3 ∷ 1 ∷ 0 ∷ 0 ∷ 0 ∷ [])
    ∷ (block small.image 4 ++ block small.image 5, three ++ replicate 1021 0)
    ∷ (small.image, after (after s (shorten file_a 3 77)) (write file_a 0 three 77))
    ∷ ((step small undo).image, s)
    -- then by 2 and by 3 bytes, in the same block: records of 1,036
    ∷ (numbers (answer small (change (replace file_a (pattern 2) 78))) ++ ascending 8 (named small.image (replace file_a (pattern 2) 78)), 0 ∷ 0 ∷ 1036 ∷ 2 ∷ 4 ∷ [])
    ∷ (block (after small.image (replace file_a (pattern 2) 78)) 4, pattern 2 ++ replicate 510 0)
    ∷ (ascending 8 (named small.image (replace file_a (pattern 3) 78)), 2 ∷ 4 ∷ [])
    -- by no bytes: the block is freed
    ∷ (ascending 8 (named small.image (replace file_a [] 78)) ++ numbers_of (after small.image (replace file_a [] 78)), 0 ∷ 1 ∷ 2 ∷ 4 ∷ 0 ∷ 0 ∷ 0 ∷ 78 ∷ 4 ∷ 4 ∷ 0 ∷ 0 ∷ 0 ∷ 0 ∷ [])
    -- by more than it has: what the write at 0 leaves and names
    ∷ (after s (replace file_a (pattern 1025) 77), after s (write file_a 0 (pattern 1025) 77))
    ∷ (ascending 8 (named s (replace file_a (pattern 1025) 77)), 0 ∷ 1 ∷ 2 ∷ 4 ∷ 5 ∷ 6 ∷ [])
    -- 14 past the last free block; 9, 10
    ∷ (
      map (refusal s) (replace file_a (pattern 2048) 1 ∷ replace file_a (pattern 2049) 1 ∷ replace file_a (pattern 4097) 1 ∷ replace [] [] 1 ∷ replace (in_root 66) (pattern 4096) 1 ∷ []),
      0 ∷ 14 ∷ 9 ∷ 9 ∷ 10 ∷ [],
    )
    ∷ []

-- the journal's form: good; version; used too low and too high; a record of no blocks; one byte more; numbers that do not rise; a number not below n
pub forms : List (List ℕ × List ℕ)
forms =
    let j = (with513 p₁).journal in (
      map (λ x. bit (well_formed x 8))
          (j ∷ splice j 0 (2 ∷ []) ∷ splice j 1 (bytes4 4) ∷ splice j 1 (bytes4 8801) ∷ splice (started 20) 1 (bytes4 9 ++ bytes4 4) ∷ splice j 1 (bytes4 3110) ∷ splice j 1045 (bytes4 0) ∷ splice j 2593 (bytes4 8) ∷ take 4 j ∷ []),
      1 ∷ 0 ∷ 0 ∷ 0 ∷ 0 ∷ 0 ∷ 0 ∷ 0 ∷ 0 ∷ [],
    )
    -- below n of the image that is lent with it; past the used part nothing is looked at
    ∷ (bit (well_formed j 6) ∷ bit (well_formed j 5) ∷ bit (well_formed (splice j 3109 (pattern 100)) 8) ∷ [], 1 ∷ 0 ∷ 1 ∷ [])
    ∷ []

stages-hold : AsExpected stages
unfolding stages checks image samples rules
stages-hold = tt

looks-hold : AsExpected looks
unfolding looks image samples rules
looks-hold = tt

starts-hold : AsExpected starts
unfolding starts samples rules
starts-hold = tt

changes-hold : AsExpected changes
unfolding changes image p₁ with513 samples rules
changes-hold = tt

shortens-hold : AsExpected shortens
unfolding shortens numbers_of image samples rules
shortens-hold = tt

replaces-hold : AsExpected replaces
unfolding replaces numbers_of image samples rules
replaces-hold = tt

forms-hold : AsExpected forms
unfolding forms bit p₁ with513 samples rules
forms-hold = tt

pub further-cases : AsExpected stages × AsExpected looks × AsExpected starts × AsExpected changes × AsExpected shortens × AsExpected replaces × AsExpected forms
further-cases = (stages-hold, looks-hold, starts-hold, changes-hold, shortens-hold, replaces-hold, forms-hold)
