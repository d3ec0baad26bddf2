-- Move, on a sound image: the file of `path` "is then the file of `to`, with all its bytes, times, attributes and other fields; nothing is at `path`". Its
-- entry goes to another slot, or stays in its own, with another name. No time, no block and no link changes.
use Rattle.std.specs.Prelude.{ℕ, ◌/◌, List, [], ◌∷◌, ◌++◌, not, ◌&&◌, ◌||◌, eqb}
use Rattle.layout.specs.Refusals.{require}
use Rattle.layout.specs.Lists.{lowest}
use Rattle.layout.specs.Bytes.{part, splice, zeros}
use Rattle.layout.specs.Directory.{slot_at, slots, type_of, is_free, is_used, is_file, padded, directory}
use Rattle.layout.specs.Paths.{parts, path_ok, leading, last_part, shallow, home, path_slot, entry_of}

-- the lowest slot of a directory that is free or begins at `own`, or 0
unfoldable pub open_slot : List ℕ → List ℕ → ℕ → ℕ
open_slot s ds own = lowest (λ k. is_free (type_of s (slot_at ds k)) || eqb (slot_at ds k) own) (slots ds)

-- "the lowest slot of that directory that is free or is the file's own", the directory of `to`; and where it begins
unfoldable pub move_slot : List ℕ → List ℕ → List ℕ → ℕ
move_slot s path to = open_slot s (directory s (home s to)) (entry_of is_file s path)

unfoldable pub move_place : List ℕ → List ℕ → List ℕ → ℕ
move_place s path to = slot_at (directory s (home s to)) (move_slot s path to)

-- 9 "either path is bad", 17 "either has more than 8 directories", 10 "no file is at `path`, or `to` leads through a file or a missing part", 11 "`to` is
-- taken, also if `to` is `path`", 13 "the directory of `to` has no free slot". The file's own slot counts as free there: it is left by the move, and a
-- name is changed in a full directory too. So 13 comes only where the two directories differ.
unfoldable pub move_refusal : List ℕ → List ℕ → List ℕ → ℕ
move_refusal s path to =
    require (path_ok path && path_ok to) 9
    (require (shallow (leading (parts path)) && shallow (leading (parts to))) 17
    (require (not (eqb (path_slot is_file s path) 0) && not (eqb (home s to) 0)) 10
    (require (eqb (path_slot is_used s to) 0) 11
    (require (not (eqb (move_slot s path to) 0)) 13 0))))

-- the 128 bytes of the entry at e under another name: all before the name's field stay
unfoldable pub renamed : List ℕ → ℕ → List ℕ → List ℕ
renamed s e name = part s e 48 ++ padded name

-- "The entry, with the new name, goes to the lowest slot ..; its old slot, if another, is zeroed": the old slot is zeroed, then the new one written
unfoldable pub move_image : List ℕ → List ℕ → List ℕ → List ℕ
move_image s path to =
    let e = entry_of is_file s path in
    splice (splice s e (zeros 128)) (move_place s path to) (renamed s e (last_part (parts to)))

-- named blocks: "the directory blocks of both slots"
unfoldable pub move_named : List ℕ → List ℕ → List ℕ → List ℕ
move_named s path to = entry_of is_file s path / 512 ∷ move_place s path to / 512 ∷ []
