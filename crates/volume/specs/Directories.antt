-- Directories made and removed, on a sound image (FORMAT.md, 9.4 and 9.5: "Two calls of their own create a directory and, only when empty, delete it as a file is
-- deleted, record and all").
use Rattle.std.specs.Prelude.{ℕ, ◌/◌, List, ◌∷◌, ◌&&◌, length, get_or, take, leb}
use Rattle.layout.specs.Lists.{within}
use Rattle.layout.specs.Refusals.{require, first_of}
use Rattle.layout.specs.Bytes.{splice}
use Rattle.layout.specs.Limits.{max_directory}
use Rattle.layout.specs.Geometry.{block_count}
use Rattle.layout.specs.Table.{next, free_blocks}
use Rattle.layout.specs.Directory.{first_block, is_directory, is_empty}
use Rattle.layout.specs.Paths.{parts, path_ok, last_part, shallow, home, entry_of, directory_refusal}
use Rattle.volume.specs.Entries.{entry_bytes, directory_made, grown, blocks_named}
use Rattle.volume.specs.Create.{new_refusal, place}

-- "A new directory is given its d (9 if type or d is out of range)", 17 "in directory calls the last part counts", 26, 10, 11, 13 as for create,
-- 14
unfoldable pub create_directory_refusal : List ℕ → List ℕ → (type flags d : ℕ) → ℕ
create_directory_refusal s path type flags d =
    require (path_ok path && (is_directory type && within 1 max_directory d)) 9
    (require (shallow (parts path)) 17
    (first_of (new_refusal s path flags)
    (require (leb d (length (free_blocks (next s) (block_count s)))) 14 0)))

-- it "takes its blocks as a write does; its entry is made, and its slot answered, as by create (with first block and d), its self entry and end type as
-- by format (with the name)"
unfoldable pub new_directory_blocks : List ℕ → ℕ → List ℕ
new_directory_blocks s d = take d (free_blocks (next s) (block_count s))

unfoldable pub create_directory_image : List ℕ → List ℕ → (type user group permissions flags time d : ℕ) → List ℕ
create_directory_image s path type user group permissions flags time d =
    let new = new_directory_blocks s d in
    let name = last_part (parts path) in
    let made = directory_made (grown s (block_count s) 0 new) new (home s path) time name in
    splice made (place s path) (entry_bytes type user group permissions (get_or new 0 0) 0 d time flags name)

-- "Creating one names, in the journal, its blocks and what a write names."
unfoldable pub create_directory_named : List ℕ → List ℕ → ℕ → List ℕ
create_directory_named s path d = place s path / 512 ∷ blocks_named (new_directory_blocks s d)

-- 9, 17, 10; "18 directory not empty". What it does and names is delete's, of the directory's entry.
unfoldable pub delete_directory_refusal : List ℕ → List ℕ → ℕ
delete_directory_refusal s path = first_of (directory_refusal s path) (require (is_empty s (first_block s (entry_of is_directory s path))) 18 0)
