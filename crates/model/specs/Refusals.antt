-- WITH WHICH NUMBER A CHANGE IS REFUSED, by the model, or 0: all but 15, which is the journal's. Two things come with it that are found by the names in a
-- folder (Listing): whether there is a place for one name more (13), and whether a folder is empty (18).
use Rattle.std.specs.Prelude.{ℕ, ◌%◌, ◌+◌, List, ◌∷◌, Bool, ◌&&◌, ◌||◌, length, eqb, leb}
use Rattle.layout.specs.Lists.{within, joined}
use Rattle.layout.specs.Refusals.{require, first_of}
use Rattle.layout.specs.Directory.{is_file, is_directory, slash, directory}
use Rattle.layout.specs.Paths.{parts, path_ok, leading, shallow}
use Rattle.volume.specs.Change.{create, write, delete, create_directory, delete_directory, set_attributes, clear_attributes, clear_flags, shorten, replace, move}
use Rattle.store.specs.Settings.{max_setting, revisions}
use Rattle.store.specs.Put.{path_of, address_refusal, form_refusal}
use Rattle.store.specs.Change.{Change, plain, put_in, subject}
use Rattle.model.specs.Model.{Node, nothing, file, folder, Model, blocks, becomes, shows_nothing, shows_file, shows_folder}
use Rattle.model.specs.Looks.{bytes_in, no_file}

-- a path is in the root, or in a folder that the model shows
abbrev pub parent_of : List ℕ → List ℕ
parent_of path = joined (λ name. slash ∷ name) (leading (parts path))

unfoldable pub in_folder : Model → List ℕ → Bool
in_folder m path = eqb (length (leading (parts path))) 0 || shows_folder (m.at (parent_of path))

-- 10, 11 and 13 of what is new; 9, 17 and 10 of a folder; 14
unfoldable pub new_number : Bool → Model → List ℕ → ℕ
new_number place m path = require (in_folder m path) 10 (require (shows_nothing (m.at path)) 11 (require place 13 0))

unfoldable pub no_folder : Model → List ℕ → ℕ
no_folder m path = require (path_ok path) 9 (require (shallow (parts path)) 17 (require (shows_folder (m.at path)) 10 0))

unfoldable pub room_number : Model → Change → ℕ
room_number m c = let x = m.at (subject c) in require (leb (blocks (becomes c x)) (m.free + blocks x)) 14 0

-- of a put: where there is a file, its form (24, 25); else what is new
abbrev pub put_number : Bool → Model → List ℕ → Node → ℕ
put_number place m path nothing = new_number place m path
put_number place m path (file f) = form_refusal (revisions f.bytes)
put_number place m path (folder d) = new_number place m path

unfoldable pub refusal_in : (place empty : Bool) → Model → Change → ℕ
refusal_in place empty m (plain (create path type user group permissions flags time)) =
    require (path_ok path && is_file type) 9 (require (shallow (leading (parts path))) 17 (require (eqb flags 0) 26 (new_number place m path)))
refusal_in place empty m (plain (write path offset bytes time)) =
    require (leb (length bytes) 4096 && path_ok path) 9
    (first_of (no_file m path) (require (leb offset (length (bytes_in (m.at path)))) 12 (room_number m (plain (write path offset bytes time)))))
refusal_in place empty m (plain (delete path)) = no_file m path
refusal_in place empty m (plain (create_directory path type user group permissions flags time size)) =
    require (path_ok path && (is_directory type && within 1 64 size)) 9
    (require (shallow (parts path)) 17
    (first_of (require (eqb flags 0) 26 (new_number place m path)) (room_number m (plain (create_directory path type user group permissions flags time size)))))
refusal_in place empty m (plain (delete_directory path)) = first_of (no_folder m path) (require empty 18 0)
refusal_in place empty m (plain (set_attributes path bytes)) =
    require (path_ok path && (leb 1 (length bytes) && eqb (length bytes % 512) 0)) 9
    (require (leb (length bytes) 4096) 20 (first_of (no_file m path) (room_number m (plain (set_attributes path bytes)))))
refusal_in place empty m (plain (clear_attributes path)) = no_file m path
refusal_in place empty m (plain (clear_flags path)) = no_file m path
refusal_in place empty m (plain (shorten path size time)) = first_of (no_file m path) (require (leb size (length (bytes_in (m.at path)))) 12 0)
refusal_in place empty m (plain (replace path bytes time)) =
    require (leb (length bytes) 4096 && path_ok path) 9 (first_of (no_file m path) (room_number m (plain (replace path bytes time))))
refusal_in place empty m (plain (move path to)) =
    require (path_ok path && path_ok to) 9
    (require (shallow (leading (parts path)) && shallow (leading (parts to))) 17
    (require (shows_file (m.at path) && in_folder m to) 10
    (require (shows_nothing (m.at to)) 11
    (require place 13 0))))
refusal_in place empty m (put_in directory serial time bytes) =
    let path = path_of directory serial in
    first_of (address_refusal directory serial (leb (length bytes) max_setting)) (first_of (put_number place m path (m.at path)) (room_number m (put_in directory serial time bytes)))
