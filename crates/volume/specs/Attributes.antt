-- Attributes set and cleared, on a sound image (FORMAT.md, 9.6 and 9.7: "Set, read .. and clear it; no time changes"). The file is given by the offset e of its entry.
use Rattle.std.specs.Prelude.{ℕ, ◌+◌, ◌*◌, ◌/◌, ◌%◌, List, ◌∷◌, ◌++◌, ◌&&◌, length, get_or, take, eqb, leb}
use Rattle.layout.specs.Refusals.{require, first_of}
use Rattle.layout.specs.Bytes.{bytes4, splice}
use Rattle.layout.specs.Limits.{max_attributes}
use Rattle.layout.specs.Geometry.{block_count}
use Rattle.layout.specs.Table.{next, free_blocks}
use Rattle.layout.specs.Directory.{is_file, attribute_blocks}
use Rattle.layout.specs.Paths.{path_ok, file_refusal, entry_of}
use Rattle.volume.specs.Entries.{grown, released, blocks_named}
use Rattle.volume.specs.Write.{put}

-- the image without the file's attributes: "A set first frees the old chain, whose blocks count as free"
unfoldable pub emptied : List ℕ → ℕ → List ℕ
emptied s e = released s (block_count s) (attribute_blocks s e)

-- "then takes the lowest"
unfoldable pub new_attributes : List ℕ → ℕ → ℕ → List ℕ
new_attributes s e count = take (count / 512) (free_blocks (next (emptied s e)) (block_count s))

-- the two fields
unfoldable pub set_attribute_fields : List ℕ → ℕ → ℕ → ℕ → List ℕ
set_attribute_fields s e first size = splice s (e + 32) (bytes4 first ++ bytes4 size)

unfoldable pub set_attributes_at : List ℕ → ℕ → List ℕ → List ℕ
set_attributes_at s e bytes =
    let new = new_attributes s e (length bytes) in
    set_attribute_fields (put (grown (emptied s e) (block_count s) 0 new) new 0 bytes) e (get_or new 0 0) (length new)

unfoldable pub clear_attributes_at : List ℕ → ℕ → List ℕ
clear_attributes_at s e = set_attribute_fields (emptied s e) e 0 0

-- "A set's record names the directory block, block 0, the new blocks and each table block with an entry of either chain"; L7: "the freed blocks too"
unfoldable pub set_attributes_named : List ℕ → ℕ → ℕ → List ℕ
set_attributes_named s e count = e / 512 ∷ blocks_named (attribute_blocks s e ++ new_attributes s e count)

-- "a clear's names what a delete would if this were the file's only chain"
unfoldable pub clear_attributes_named : List ℕ → ℕ → List ℕ
clear_attributes_named s e = e / 512 ∷ blocks_named (attribute_blocks s e)

-- "data of no bytes or not a multiple of 512 is a 9"; "20 for more than 8 blocks, between 9 and 17"; 17, 10; 14 "fewer free blocks than needed". A
-- clear's, 9, 17 and 10, are file_refusal of the layout.
unfoldable pub set_attributes_refusal : List ℕ → List ℕ → ℕ → ℕ
set_attributes_refusal s path count =
    require (path_ok path && (leb 1 count && eqb (count % 512) 0)) 9
    (require (leb count (512 * max_attributes)) 20
    (first_of (file_refusal s path)
    (require (leb (count / 512) (length (free_blocks (next (emptied s (entry_of is_file s path))) (block_count s)))) 14 0)))
