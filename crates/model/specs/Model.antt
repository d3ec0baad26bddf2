-- THE MODEL: what a volume is to those who use it. Every path shows a file, a folder or nothing, and some blocks are free; a change makes something else
-- of what its own path shows, and a move brings that to another path. A path, a name and data are lists of bytes, a block is 512 bytes. No image, block
-- number, table or slot is spoken of here.
use Rattle.std.specs.Prelude.{ℕ, ◌+◌, ◌-◌, ◌/◌, List, [], ◌∷◌, Bool, true, false, cond, length, take}
use Rattle.layout.specs.Lists.{same}
use Rattle.layout.specs.Bytes.{splice}
use Rattle.layout.specs.Geometry.{blocks_for}
use Rattle.volume.specs.Change.{create, write, delete, create_directory, delete_directory, set_attributes, clear_attributes, clear_flags, shorten, replace, move}
use Rattle.store.specs.Settings.{encoded, Found, held, revisions, added}
use Rattle.store.specs.Put.{held_in}
use Rattle.store.specs.Change.{Change, plain, put_in, subject, further}

-- A file, and a folder with its size in blocks. Given: what came with the call that made it.
pub record Given : Type 0 where
  pub type : ℕ
  pub user : ℕ
  pub group : ℕ
  pub permissions : ℕ
  pub created : ℕ

pub record File : Type 0 where
  pub given : Given
  pub modified : ℕ
  pub flags : ℕ
  pub bytes : List ℕ
  pub attributes : List ℕ

pub record Folder : Type 0 where
  pub given : Given
  pub modified : ℕ
  pub flags : ℕ
  pub size : ℕ

pub data Node : Type 0 where
  nothing : Node
  file : File → Node
  folder : Folder → Node

-- A VOLUME: what each path shows, how many blocks are free, and how many the root has, which no path shows
pub record Model : Type 0 where
  pub at : List ℕ → Node
  pub free : ℕ
  pub root_size : ℕ

-- just formatted
abbrev pub empty : (root_size free : ℕ) → Model
empty root_size free = record { at = λ path. nothing; free = free; root_size = root_size }

-- the blocks that what a path shows takes: those of a file's bytes and attributes, those of a folder
abbrev pub blocks : Node → ℕ
blocks nothing = 0
blocks (file f) = blocks_for (length f.bytes) + length f.attributes / 512
blocks (folder d) = d.size

-- x in the place of what a path shows, which gives its blocks back, while x takes its own; every other path shows what it showed
unfoldable pub set_at : Model → List ℕ → Node → Model
set_at m path x = record { at = λ other. cond (same other path) x (m.at other); free = m.free + blocks (m.at path) - blocks x; root_size = m.root_size }

-- a file made; other bytes, and the time; other attributes; no flags
abbrev pub new : (type user group permissions flags time : ℕ) → File
new type user group permissions flags time =
    record { given = record { type = type; user = user; group = group; permissions = permissions; created = time }; modified = time; flags = flags; bytes = []; attributes = [] }

abbrev pub holding : List ℕ → ℕ → File → File
holding bytes time f = record { given = f.given; modified = time; flags = f.flags; bytes = bytes; attributes = f.attributes }

abbrev pub written : ℕ → List ℕ → ℕ → File → File
written offset bytes time f = holding (splice f.bytes offset bytes) time f

abbrev pub attributed : List ℕ → File → File
attributed bytes f = record { given = f.given; modified = f.modified; flags = f.flags; bytes = f.bytes; attributes = bytes }

abbrev pub flagless : File → File
flagless f = record { given = f.given; modified = f.modified; flags = 0; bytes = f.bytes; attributes = f.attributes }

abbrev pub on_file : (File → File) → Node → Node
on_file change nothing = nothing
on_file change (file f) = file (change f)
on_file change (folder d) = folder d

-- SETTINGS are the file of a serial number in a folder: its revisions, oldest first, each a number and data. A put adds one to them (`added`: of 16 the oldest
-- goes) and writes them all (`encoded`, `revisions`: there and back); where there is no file it makes one.
abbrev pub file_or : File → Node → File
file_or f nothing = f
file_or f (file x) = x
file_or f (folder d) = f

abbrev pub settings : Node → Found
settings nothing = held []
settings (file f) = revisions f.bytes
settings (folder d) = held []

abbrev pub put_to : ℕ → List ℕ → Node → File
put_to time bytes x =
    let f = file_or (new 0x60 0 0 0 0 time) x in
    written 0 (encoded (added (held_in (settings x)) bytes) (length f.bytes)) time f

-- A CHANGE: what it makes of what its path shows, and of the volume. A move leaves nothing at its path, and brings what was there to its other path.
unfoldable pub becomes : Change → Node → Node
becomes (plain (create path type user group permissions flags time)) x = file (new type user group permissions flags time)
becomes (plain (write path offset bytes time)) x = on_file (written offset bytes time) x
becomes (plain (shorten path size time)) x = on_file (λ f. holding (take size f.bytes) time f) x
becomes (plain (replace path bytes time)) x = on_file (holding bytes time) x
becomes (plain (delete path)) x = nothing
becomes (plain (move path to)) x = nothing
becomes (plain (create_directory path type user group permissions flags time size)) x =
    folder (record { given = record { type = type; user = user; group = group; permissions = permissions; created = time }; modified = time; flags = flags; size = size })
becomes (plain (delete_directory path)) x = nothing
becomes (plain (set_attributes path bytes)) x = on_file (attributed bytes) x
becomes (plain (clear_attributes path)) x = on_file (attributed []) x
becomes (plain (clear_flags path)) x = on_file flagless x
becomes (put_in directory serial time bytes) x = file (put_to time bytes x)

-- x brought to further paths: a move has one, every other change none
abbrev pub brought : Node → List (List ℕ) → Model → Model
brought x [] m = m
brought x (to ∷ tos) m = set_at (brought x tos m) to x

unfoldable pub step : Model → Change → Model
step m c = let x = m.at (subject c) in brought x (further c) (set_at m (subject c) (becomes c x))

-- what a path shows, as tests
abbrev pub shows_nothing : Node → Bool
shows_nothing nothing = true
shows_nothing (file f) = false
shows_nothing (folder d) = false

abbrev pub shows_file : Node → Bool
shows_file nothing = false
shows_file (file f) = true
shows_file (folder d) = false

abbrev pub shows_folder : Node → Bool
shows_folder nothing = false
shows_folder (file f) = false
shows_folder (folder d) = true
