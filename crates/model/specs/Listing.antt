-- WHAT A FOLDER HOLDS: its names, how many places are left, and what an entry tells of a name. A folder is its path, the root the empty one: what is called
-- `name` in it is at the folder's path, a `/`, and the name.
use Rattle.std.specs.Prelude.{ℕ, ◌-◌, ◌*◌, ◌/◌, ◌≤◌, min, ◌≡◌, Bool, true, false, ◌&&◌, cond, List, [], ◌∷◌, ◌++◌, ◌⊎◌, length, take, eqb, ltb}
use Rattle.layout.specs.Lists.{every, same, has, distinct}
use Rattle.layout.specs.Bytes.{be32, be64, bytes4, bytes8, splice}
use Rattle.layout.specs.Geometry.{blocks_for}
use Rattle.layout.specs.Directory.{slash, good_name, padded}
use Rattle.layout.specs.Paths.{parts, path_ok, leading, shallow}
use Rattle.layout.specs.Looks.{EntryAnswer, no_entry, is_root_path}
use Rattle.store.specs.Put.{front}
use Rattle.model.specs.Model.{Given, Node, nothing, file, folder, Model, blocks, shows_nothing}
use Rattle.model.specs.Looks.{no_file}
use Rattle.model.specs.Refusals.{parent_of, in_folder, no_folder}

abbrev pub child : List ℕ → List ℕ → List ℕ
child at name = at ++ (slash ∷ name)

-- these are the names in a folder: good names, each once, something is at each, and no name is left out at which something is
pub record Lists (m : Model) (at : List ℕ) (names : List (List ℕ)) : Type 0 where
  pub good : every good_name names ≡ true
  pub once : distinct same names ≡ true
  pub shown : (name : List ℕ) → has same name names ≡ true → shows_nothing (m.at (child at name)) ≡ false
  pub whole : (name : List ℕ) → good_name name ≡ true → shows_nothing (m.at (child at name)) ≡ false → has same name names ≡ true

-- 13: a folder has four places in each of its blocks, but for two; one is left if it has fewer names
abbrev pub folder_blocks : Model → List ℕ → ℕ
folder_blocks m [] = m.root_size
folder_blocks m (x ∷ xs) = blocks (m.at (x ∷ xs))

abbrev pub room_for : Model → List ℕ → List (List ℕ) → Bool
room_for m at names = ltb (length names) (4 * folder_blocks m at - 2)

-- AN ENTRY. The number is that of the folder; there is none left to tell of, or all fields are those of what is at a name, which comes with its zeros, as much
-- of these 80 bytes as the buffer holds. A time is told by the eight bytes that keep it, flags by four.
unfoldable pub list_number : Model → List ℕ → ℕ
list_number m path = cond (is_root_path path) 0 (no_folder m path)

abbrev pub Given≡ : Given → EntryAnswer → Type 0
Given≡ g a = (a.type ≡ g.type) × (a.user ≡ g.user) × (a.group ≡ g.group) × (a.permissions ≡ g.permissions) × (a.created ≡ be64 (bytes8 g.created) 0)

unfoldable pub Tells : Node → EntryAnswer → Type 0
Tells nothing a = ⊥
Tells (file f) a =
    Given≡ f.given a × (a.modified ≡ be64 (bytes8 f.modified) 0) × (a.flags ≡ be32 (bytes4 f.flags) 0)
    × (a.size ≡ length f.bytes) × (a.blocks ≡ blocks_for (length f.bytes)) × (a.attribute_size ≡ length f.attributes / 512)
Tells (folder d) a =
    Given≡ d.given a × (a.modified ≡ be64 (bytes8 d.modified) 0) × (a.flags ≡ be32 (bytes4 d.flags) 0)
    × (a.size ≡ 0) × (a.blocks ≡ d.size) × (a.attribute_size ≡ 0)

pub record Entered (m : Model) (at buffer : List ℕ) (a : EntryAnswer) : Type 0 where
  pub name : List ℕ
  pub tells : Tells (m.at (child at name)) a
  pub named : a.buffer ≡ splice buffer 0 (take (min (length buffer) 80) (padded name))

pub record EntrySays (m : Model) (path buffer : List ℕ) (a : EntryAnswer) : Type 0 where
  pub number : a.number ≡ list_number m path
  pub entry : (a ≡ no_entry (list_number m path) buffer) ⊎ Entered m (front path) buffer a

-- the path of the new name that a change brings; whether it leads to a folder (and of a move, whether there is a file to bring); whether a move stays in its folder
abbrev pub goal : List ℕ → List (List ℕ) → List ℕ
goal path [] = path
goal path (to ∷ tos) = to

abbrev pub leads_on : Model → List ℕ → List (List ℕ) → Bool
leads_on m path [] = path_ok path && (shallow (leading (parts path)) && in_folder m path)
leads_on m path (to ∷ tos) = eqb (no_file m path) 0 && (path_ok to && (shallow (leading (parts to)) && in_folder m to))

abbrev pub stays_in : List ℕ → List (List ℕ) → Bool
stays_in path [] = false
stays_in path (to ∷ tos) = same (parent_of path) (parent_of to)

-- EVERY NAME COMES: asked from its slot on, the entry is that of the name; asked from any lower one, no entry behind it comes. So who begins at 0 and goes on
-- behind each answered slot, until none is answered, meets it.
pub record Comes (ask : ℕ → EntryAnswer) (buffer name : List ℕ) : Type 0 where
  pub slot : ℕ
  pub answered : (ask slot).slot ≡ slot
  pub named : (ask slot).buffer ≡ splice buffer 0 (take (min (length buffer) 80) (padded name))
  pub before : (start : ℕ) → start ≤ slot → (1 ≤ (ask start).slot) × ((ask start).slot ≤ slot)
