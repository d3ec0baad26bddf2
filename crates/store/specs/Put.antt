-- Put (FORMAT.md, 14), on a sound image: "A put is one volume change, leaving what a create (where there is no file) and one write of the whole rewritten
-- file at 0, without the 4,096 limit, would; its record names what that write names."
use Rattle.std.specs.Prelude.{ℕ, suc, List, [], ◌∷◌, ◌++◌, Bool, not, ◌&&◌, ◌||◌, cond, length, eqb, leb, ltb}
use Rattle.layout.specs.Lists.{within, every}
use Rattle.layout.specs.Refusals.{require, first_of}
use Rattle.layout.specs.Geometry.{block_count}
use Rattle.layout.specs.Table.{next, free_blocks}
use Rattle.layout.specs.Directory.{size_of, is_file, slash, content}
use Rattle.layout.specs.Looks.{is_root_path}
use Rattle.layout.specs.Paths.{parts, path_ok, leading, shallow, path_slot, entry_of}
use Rattle.volume.specs.Create.{place_refusal, create_image}
use Rattle.volume.specs.Write.{needed, write_at, write_named}
use Rattle.store.specs.Settings.{max_setting, max_number, Revision, encoded, Found, broken, held, revisions, latest, added}

-- "one file per serial number (1 to 16 ASCII letters and digits)"
abbrev pub serial_byte : ℕ → Bool
serial_byte x = within 0x30 0x39 x || (within 0x41 0x5A x || within 0x61 0x7A x)

unfoldable pub serial_ok : List ℕ → Bool
serial_ok serial = within 1 16 (length serial) && every serial_byte serial

-- N3: "a directory beside the serial number: `/` for the root, or a path of the form `/a/b`"; L10's calls are those with the root
abbrev pub root : List ℕ
root = slash ∷ []

unfoldable pub directory_ok : List ℕ → Bool
directory_ok directory = is_root_path directory || path_ok directory

-- N3: "The file's path is directory ++ "/" ++ serial (for the root: "/" ++ serial)."
unfoldable pub front : List ℕ → List ℕ
front directory = cond (is_root_path directory) [] directory

unfoldable pub path_of : List ℕ → List ℕ → List ℕ
path_of directory serial = front directory ++ (slash ∷ serial)

-- 22 in the place of 9, for directory, serial number and data or buffer (`fits`); then 17, of the file's path as of any other
unfoldable pub address_refusal : List ℕ → List ℕ → Bool → ℕ
address_refusal directory serial fits =
    require (directory_ok directory && (serial_ok serial && fits)) 22
    (require (shallow (leading (parts (path_of directory serial)))) 17 0)

-- there is a file of that serial number; the revisions in it, none where there is no file
unfoldable pub is_there : List ℕ → List ℕ → List ℕ → Bool
is_there s directory serial = not (eqb (path_slot is_file s (path_of directory serial)) 0)

unfoldable pub stored : List ℕ → List ℕ → List ℕ → Found
stored s directory serial = let found = revisions (content s (entry_of is_file s (path_of directory serial))) in cond (is_there s directory serial) found (held [])

abbrev pub held_in : Found → List Revision
held_in broken = []
held_in (held rs) = rs

-- "the first put has 1 and makes the file (type 0x60, the given time, other given fields 0)": the image with the file, and its entry there
unfoldable pub opened : List ℕ → List ℕ → List ℕ → ℕ → List ℕ
opened s directory serial time = let new = create_image s (path_of directory serial) 0x60 0 0 0 0 time in cond (is_there s directory serial) s new

unfoldable pub entry_at : List ℕ → List ℕ → List ℕ → ℕ → ℕ
entry_at s directory serial time = entry_of is_file (opened s directory serial time) (path_of directory serial)

-- the whole rewritten file: "Where the records get shorter, the file keeps its size, with zeros after them."
unfoldable pub rewritten : List ℕ → List ℕ → List ℕ → ℕ → List ℕ → List ℕ
rewritten s directory serial time bytes = encoded (added (held_in (stored s directory serial)) bytes) (size_of (opened s directory serial time) (entry_at s directory serial time))

unfoldable pub put_image : List ℕ → List ℕ → List ℕ → ℕ → List ℕ → List ℕ
put_image s directory serial time bytes = write_at (opened s directory serial time) (entry_at s directory serial time) 0 (rewritten s directory serial time bytes) time

unfoldable pub put_named : List ℕ → List ℕ → List ℕ → ℕ → List ℕ → List ℕ
put_named s directory serial time bytes = write_named (opened s directory serial time) (entry_at s directory serial time) 0 (length (rewritten s directory serial time bytes))

-- "Put also answers the new number"
unfoldable pub put_revision : List ℕ → List ℕ → List ℕ → ℕ
put_revision s directory serial = suc (latest (held_in (stored s directory serial)))

-- Where there is a file: "24 a file not of this form", "25 revision number used up".
abbrev pub form_refusal : Found → ℕ
form_refusal broken = 24
form_refusal (held rs) = require (ltb (latest rs) max_number) 25 0

-- 22 and 17; then 10 "where no directory is there", 11 "a directory of that name gives 11", "after 12, first 24 .. then 25", 13 and 14. Where there is a file
-- no 10, 11 and 13 concern the call, since nothing is created, and where there is none no 24 and 25; so each has its own numbers in order, and then both
-- have 14. In the root `place_refusal` never gives 10, and 17 never applies; neither does 26 apply to flags that are 0, 12 to the offset 0, nor 23, which is
-- get's.
unfoldable pub put_refusal : List ℕ → List ℕ → List ℕ → ℕ → List ℕ → ℕ
put_refusal s directory serial time bytes =
    let t = opened s directory serial time in
    let form = form_refusal (stored s directory serial) in
    let place = place_refusal s (path_of directory serial) in
    let room = require (leb (needed t (entry_at s directory serial time) 0 (length (rewritten s directory serial time bytes))) (length (free_blocks (next t) (block_count t)))) 14 0 in
    first_of (address_refusal directory serial (leb (length bytes) max_setting))
    (first_of (cond (is_there s directory serial) form place) room)
