-- Directories and their entries (FORMAT.md, 3.3). A directory is the list ds of its blocks in chain order; an entry is named by
-- the offset e at which it begins.
use Rattle.std.specs.Prelude.{ℕ, zero, suc, ◌+◌, ◌-◌, ◌*◌, ◌/◌, ◌%◌, List, [], ◌∷◌, ◌++◌, map, Bool, not, ◌&&◌, length, get_or, take, eqb}
use Rattle.layout.specs.Lists.{within, interval, every, select, lowest, same, joined}
use Rattle.layout.specs.Bytes.{be32, part, block, zeros}
use Rattle.layout.specs.Limits.{max_name, max_levels}
use Rattle.layout.specs.Geometry.{block_count, root_block}
use Rattle.layout.specs.Table.{next, chain}

-- "Slots are counted along the root chain, four in a block." Slot 0 is the self entry, slot 4d−1 the end.
unfoldable pub slot_at : List ℕ → ℕ → ℕ
slot_at ds k = 512 * get_or ds (k / 4) 0 + 128 * (k % 4)

-- slots 1 to 4d−2, each free, a file or a child directory
abbrev pub slots : List ℕ → List ℕ
slots ds = interval 1 (4 * length ds - 2)

-- the fields of an entry
abbrev pub type_of : List ℕ → ℕ → ℕ
type_of s e = get_or s e 0

abbrev pub first_block : List ℕ → ℕ → ℕ
first_block s e = be32 s (e + 4)

abbrev pub size_of : List ℕ → ℕ → ℕ
size_of s e = be32 s (e + 8)

abbrev pub blocks_of : List ℕ → ℕ → ℕ
blocks_of s e = be32 s (e + 12)

-- L6: "Attribute block and attribute size (in blocks) may now name a second chain for a file"
abbrev pub attribute_block_of : List ℕ → ℕ → ℕ
attribute_block_of s e = be32 s (e + 32)

abbrev pub attribute_size_of : List ℕ → ℕ → ℕ
attribute_size_of s e = be32 s (e + 36)

-- "The self entry has block_self at 4, block_parent at 8, size_blocks at 12."
abbrev pub self_of : List ℕ → ℕ → ℕ
self_of s e = be32 s (e + 4)

abbrev pub parent_of : List ℕ → ℕ → ℕ
parent_of s e = be32 s (e + 8)

-- "Types: 0x00 free slot, 0x01 self, 0x60 to 0x9F file, 0xFF end."
abbrev pub is_free : ℕ → Bool
is_free type = eqb type 0

abbrev pub is_file : ℕ → Bool
is_file type = within 0x60 0x9F type

abbrev pub is_used : ℕ → Bool
is_used type = not (is_free type)

-- "Child directories (types 0x20 to 0x5F) join"
abbrev pub is_directory : ℕ → Bool
is_directory type = within 0x20 0x5F type

-- "A name is 1 to 80 non-zero bytes, zeros after it if any room is left"; "The byte `/` is no longer part of a name" (FORMAT.md, 3.4)
abbrev pub slash : ℕ
slash = 0x2F

abbrev pub name_byte : ℕ → Bool
name_byte x = not (eqb x 0) && not (eqb x slash)

unfoldable pub good_name : List ℕ → Bool
good_name name = within 1 max_name (length name) && every name_byte name

-- the bytes before the first zero, and a name with its zeros
abbrev pub unpadded : List ℕ → List ℕ
unpadded [] = []
unpadded (zero ∷ xs) = []
unpadded (suc x ∷ xs) = suc x ∷ unpadded xs

abbrev pub padded : List ℕ → List ℕ
padded name = name ++ zeros (80 - length name)

-- the name of an entry, and whether its field holds a good one with just zeros after it
unfoldable pub name_of : List ℕ → ℕ → List ℕ
name_of s e = unpadded (part s (e + 48) 80)

unfoldable pub name_ok : List ℕ → ℕ → Bool
name_ok s e = good_name (name_of s e) && same (part s (e + 48) 80) (padded (name_of s e))

-- the slots that hold files; the slot of a name, among those whose type passes, or 0; the lowest free slot, or 0
unfoldable pub files : List ℕ → List ℕ → List ℕ
files s ds = select (λ k. is_file (type_of s (slot_at ds k))) (slots ds)

unfoldable pub slot_of : (ℕ → Bool) → List ℕ → List ℕ → List ℕ → ℕ
slot_of type s ds name = lowest (λ k. type (type_of s (slot_at ds k)) && same (name_of s (slot_at ds k)) name) (slots ds)

unfoldable pub free_slot : List ℕ → List ℕ → ℕ
free_slot s ds = lowest (λ k. is_free (type_of s (slot_at ds k))) (slots ds)

-- the blocks of the directory that begins at block b, as many as its self entry counts
unfoldable pub directory : List ℕ → ℕ → List ℕ
directory s b = chain (next s) b (blocks_of s (512 * b))

-- "only when empty": every slot between the self entry and the end is free
unfoldable pub is_empty : List ℕ → ℕ → Bool
is_empty s b = let ds = directory s b in every (λ k. is_free (type_of s (slot_at ds k))) (slots ds)

-- where the root begins, and its blocks
abbrev pub root_of : List ℕ → ℕ
root_of s = root_block (block_count s)

abbrev pub root : List ℕ → List ℕ
root s = directory s (root_of s)

-- THE TREE. The entries of the child directories of a directory, in slot order; a directory and all below it, each before those below it, as its
-- first block and the number of levels that may come below it; all of them, from the root on.
unfoldable pub children : List ℕ → ℕ → List ℕ
children s b = let ds = directory s b in map (slot_at ds) (select (λ k. is_directory (type_of s (slot_at ds k))) (slots ds))

unfoldable pub below : List ℕ → ℕ → ℕ → List (ℕ × ℕ)
below s zero b = (b, zero) ∷ []
below s (suc left) b = (b, suc left) ∷ joined (λ e. below s left (first_block s e)) (children s b)

unfoldable pub dirs : List ℕ → List (ℕ × ℕ)
dirs s = below s max_levels (root_of s)

-- a file's blocks; "A file's bytes are its chain's blocks in chain order, cut at its size."
unfoldable pub file_blocks : List ℕ → ℕ → List ℕ
file_blocks s e = chain (next s) (first_block s e) (blocks_of s e)

unfoldable pub content : List ℕ → ℕ → List ℕ
content s e = take (size_of s e) (joined (block s) (file_blocks s e))

-- L6: the blocks of its second chain, and the bytes that they hold
unfoldable pub attribute_blocks : List ℕ → ℕ → List ℕ
attribute_blocks s e = chain (next s) (attribute_block_of s e) (attribute_size_of s e)

unfoldable pub attributes : List ℕ → ℕ → List ℕ
attributes s e = joined (block s) (attribute_blocks s e)
