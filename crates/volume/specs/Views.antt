-- Views: what a path shows of an image, apart from where it lies in it, and what a change makes of what its own path shows.
use Rattle.std.specs.Prelude.{ℕ, ◌+◌, ◌-◌, ◌/◌, max, ◌≡◌, List, [], ◌∷◌, Bool, true, false, cond, ◌⊎◌, length, take}
use Rattle.layout.specs.Lists.{has, same}
use Rattle.layout.specs.Refusals.{accept}
use Rattle.layout.specs.Bytes.{be32, bytes4, bytes8, part, splice, zeros}
use Rattle.layout.specs.Geometry.{blocks_for}
use Rattle.layout.specs.Directory.{blocks_of, is_file, is_directory, content, attributes}
use Rattle.layout.specs.Paths.{entry_of, file_refusal, directory_refusal}
use Rattle.volume.specs.Change.{Change, create, write, delete, create_directory, delete_directory, set_attributes, clear_attributes, clear_flags, shorten, replace, move}

-- a file: its bytes; type, user, group and permissions; both times; system flags; the bytes of its attributes
pub record File : Type 0 where
  pub bytes : List ℕ
  pub kind : List ℕ
  pub created : List ℕ
  pub modified : List ℕ
  pub flags : List ℕ
  pub attributes : List ℕ

-- a directory: the same of its entry, and its size in blocks
pub record Folder : Type 0 where
  pub kind : List ℕ
  pub created : List ℕ
  pub modified : List ℕ
  pub flags : List ℕ
  pub size : ℕ

pub data Maybe (A : Type 0) : Type 0 where
  nothing : Maybe A
  just : A → Maybe A

unfoldable pub file_of : List ℕ → ℕ → File
file_of s e =
    record { bytes = content s e; kind = part s e 4; created = part s (e + 16) 8; modified = part s (e + 24) 8; flags = part s (e + 40) 4; attributes = attributes s e }

unfoldable pub folder_of : List ℕ → ℕ → Folder
folder_of s e = record { kind = part s e 4; created = part s (e + 16) 8; modified = part s (e + 24) 8; flags = part s (e + 40) 4; size = blocks_of s e }

-- what a path shows of the image s
unfoldable pub file_at : List ℕ → List ℕ → Maybe File
file_at s path = accept (file_refusal s path) (just (file_of s (entry_of is_file s path))) nothing

unfoldable pub folder_at : List ℕ → List ℕ → Maybe Folder
folder_at s path = accept (directory_refusal s path) (just (folder_of s (entry_of is_directory s path))) nothing

-- L13, "the same paths exist with the same bytes, times and other given fields, and the free count is the same": every path shows the same file or
-- directory of s and of s', or nothing of both, and as many blocks are free. Slots and block numbers may differ.
pub record SameFiles (s s' : List ℕ) : Type 0 where
  pub files : (path : List ℕ) → file_at s path ≡ file_at s' path
  pub folders : (path : List ℕ) → folder_at s path ≡ folder_at s' path
  pub free : be32 s 24 ≡ be32 s' 24

-- L11, "Create, of a directory too, now wants zero there": the system flags that a path shows, zero where it shows nothing; and of a change from s to s',
-- that they are zero after it, or what they were at the path whose file it is: where a move has brought a file, those that the file had
abbrev pub flags_in : Maybe File → List ℕ
flags_in nothing = zeros 4
flags_in (just x) = x.flags

abbrev pub folder_flags_in : Maybe Folder → List ℕ
folder_flags_in nothing = zeros 4
folder_flags_in (just x) = x.flags

pub record NoNewFlags (s s' : List ℕ) (origin : List ℕ → List ℕ) : Type 0 where
  pub files : (path : List ℕ) → (flags_in (file_at s' path) ≡ zeros 4) ⊎ (flags_in (file_at s' path) ≡ flags_in (file_at s (origin path)))
  pub folders : (path : List ℕ) → (folder_flags_in (folder_at s' path) ≡ zeros 4) ⊎ (folder_flags_in (folder_at s' path) ≡ folder_flags_in (folder_at s path))

-- the path that a change is about
unfoldable pub subject : Change → List ℕ
subject (create path type user group permissions flags time) = path
subject (write path offset bytes time) = path
subject (delete path) = path
subject (create_directory path type user group permissions flags time d) = path
subject (delete_directory path) = path
subject (set_attributes path bytes) = path
subject (clear_attributes path) = path
subject (clear_flags path) = path
subject (shorten path size time) = path
subject (replace path bytes time) = path
subject (move path to) = path

-- of a move also the path where its file is then; and all the paths that a change is about
unfoldable pub further : Change → List (List ℕ)
further (create path type user group permissions flags time) = []
further (write path offset bytes time) = []
further (delete path) = []
further (create_directory path type user group permissions flags time d) = []
further (delete_directory path) = []
further (set_attributes path bytes) = []
further (clear_attributes path) = []
further (clear_flags path) = []
further (shorten path size time) = []
further (replace path bytes time) = []
further (move path to) = to ∷ []

abbrev pub subjects : Change → List (List ℕ)
subjects c = subject c ∷ further c

-- the path that showed before a change on `from`, with the further paths `tos`, what a path shows after it
abbrev pub origin_of : List ℕ → List (List ℕ) → List ℕ → List ℕ
origin_of from tos path = cond (has same path tos) from path

-- the changes of a file where it is
unfoldable pub of_file : Change → Bool
of_file (create path type user group permissions flags time) = true
of_file (write path offset bytes time) = true
of_file (delete path) = true
of_file (create_directory path type user group permissions flags time d) = false
of_file (delete_directory path) = false
of_file (set_attributes path bytes) = true
of_file (clear_attributes path) = true
of_file (clear_flags path) = true
of_file (shorten path size time) = true
of_file (replace path bytes time) = true
of_file (move path to) = false

-- what an accepted change makes of the file that its path shows
abbrev pub over : Maybe File → (File → File) → Maybe File
over nothing f = nothing
over (just x) f = just (f x)

unfoldable pub made : Change → Maybe File → Maybe File
made (create path type user group permissions flags time) m =
    just (record { bytes = []; kind = type ∷ user ∷ group ∷ permissions ∷ []; created = bytes8 time; modified = bytes8 time; flags = bytes4 flags; attributes = [] })
made (write path offset bytes time) m =
    over m (λ f. record { bytes = splice f.bytes offset bytes; kind = f.kind; created = f.created; modified = bytes8 time; flags = f.flags; attributes = f.attributes })
made (delete path) m = nothing
made (create_directory path type user group permissions flags time d) m = m
made (delete_directory path) m = m
made (set_attributes path bytes) m = over m (λ f. record { bytes = f.bytes; kind = f.kind; created = f.created; modified = f.modified; flags = f.flags; attributes = bytes })
made (clear_attributes path) m = over m (λ f. record { bytes = f.bytes; kind = f.kind; created = f.created; modified = f.modified; flags = f.flags; attributes = [] })
made (clear_flags path) m = over m (λ f. record { bytes = f.bytes; kind = f.kind; created = f.created; modified = f.modified; flags = zeros 4; attributes = f.attributes })
made (shorten path size time) m = over m (λ f. record { bytes = take size f.bytes; kind = f.kind; created = f.created; modified = bytes8 time; flags = f.flags; attributes = f.attributes })
made (replace path bytes time) m = over m (λ f. record { bytes = bytes; kind = f.kind; created = f.created; modified = bytes8 time; flags = f.flags; attributes = f.attributes })
made (move path to) m = nothing

-- the blocks that it takes and those that it gives back
abbrev pub count : Maybe File → (File → ℕ) → ℕ
count nothing f = 0
count (just x) f = f x

unfoldable pub takes : Change → Maybe File → ℕ
takes (create path type user group permissions flags time) m = 0
takes (write path offset bytes time) m = count m (λ f. blocks_for (max (length f.bytes) (offset + length bytes)) - blocks_for (length f.bytes))
takes (delete path) m = 0
takes (create_directory path type user group permissions flags time d) m = d
takes (delete_directory path) m = 0
takes (set_attributes path bytes) m = length bytes / 512
takes (clear_attributes path) m = 0
takes (clear_flags path) m = 0
takes (shorten path size time) m = 0
takes (replace path bytes time) m = count m (λ f. blocks_for (length bytes) - blocks_for (length f.bytes))
takes (move path to) m = 0

unfoldable pub gives : Change → Maybe File → ℕ
gives (create path type user group permissions flags time) m = 0
gives (write path offset bytes time) m = 0
gives (delete path) m = count m (λ f. blocks_for (length f.bytes) + length f.attributes / 512)
gives (create_directory path type user group permissions flags time d) m = 0
gives (delete_directory path) m = 0
gives (set_attributes path bytes) m = count m (λ f. length f.attributes / 512)
gives (clear_attributes path) m = count m (λ f. length f.attributes / 512)
gives (clear_flags path) m = 0
gives (shorten path size time) m = count m (λ f. blocks_for (length f.bytes) - blocks_for size)
gives (replace path bytes time) m = count m (λ f. blocks_for (length f.bytes) - blocks_for (length bytes))
gives (move path to) m = 0

-- of the directory that its path shows: what it makes of it, and the blocks that it gives back
unfoldable pub made_folder : Change → Maybe Folder → Maybe Folder
made_folder (create path type user group permissions flags time) m = m
made_folder (write path offset bytes time) m = m
made_folder (delete path) m = m
made_folder (create_directory path type user group permissions flags time d) m =
    just (record { kind = type ∷ user ∷ group ∷ permissions ∷ []; created = bytes8 time; modified = bytes8 time; flags = bytes4 flags; size = d })
made_folder (delete_directory path) m = nothing
made_folder (set_attributes path bytes) m = m
made_folder (clear_attributes path) m = m
made_folder (clear_flags path) m = m
made_folder (shorten path size time) m = m
made_folder (replace path bytes time) m = m
made_folder (move path to) m = m

abbrev pub size_in : Maybe Folder → ℕ
size_in nothing = 0
size_in (just x) = x.size

unfoldable pub gives_folder : Change → Maybe Folder → ℕ
gives_folder (create path type user group permissions flags time) m = 0
gives_folder (write path offset bytes time) m = 0
gives_folder (delete path) m = 0
gives_folder (create_directory path type user group permissions flags time d) m = 0
gives_folder (delete_directory path) m = size_in m
gives_folder (set_attributes path bytes) m = 0
gives_folder (clear_attributes path) m = 0
gives_folder (clear_flags path) m = 0
gives_folder (shorten path size time) m = 0
gives_folder (replace path bytes time) m = 0
gives_folder (move path to) m = 0
