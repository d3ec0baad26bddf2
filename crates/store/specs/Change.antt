-- All changes: those of the volume, and a put; the rules of each in one place, on a sound image. The names are those of the volume's changes: what the journal
-- and its runs need of a change are these four.
use Rattle.std.specs.Prelude.{ℕ, List, [], ◌∷◌}
use Rattle.volume.specs.Change as volume
use Rattle.volume.specs.Views as views
use Rattle.store.specs.Put.{root, path_of, put_refusal, put_image, put_named, put_revision}

pub data Change : Type 0 where
  plain : volume.Change → Change
  put_in : (directory serial : List ℕ) (time : ℕ) (bytes : List ℕ) → Change

-- the volume's changes by their own names
abbrev pub create : (path : List ℕ) (type user group permissions flags time : ℕ) → Change
create path type user group permissions flags time = plain (volume.create path type user group permissions flags time)

abbrev pub write : (path : List ℕ) (offset : ℕ) (bytes : List ℕ) (time : ℕ) → Change
write path offset bytes time = plain (volume.write path offset bytes time)

abbrev pub delete : (path : List ℕ) → Change
delete path = plain (volume.delete path)

abbrev pub create_directory : (path : List ℕ) (type user group permissions flags time d : ℕ) → Change
create_directory path type user group permissions flags time d = plain (volume.create_directory path type user group permissions flags time d)

abbrev pub delete_directory : (path : List ℕ) → Change
delete_directory path = plain (volume.delete_directory path)

abbrev pub set_attributes : (path bytes : List ℕ) → Change
set_attributes path bytes = plain (volume.set_attributes path bytes)

abbrev pub clear_attributes : (path : List ℕ) → Change
clear_attributes path = plain (volume.clear_attributes path)

abbrev pub clear_flags : (path : List ℕ) → Change
clear_flags path = plain (volume.clear_flags path)

abbrev pub shorten : (path : List ℕ) (size time : ℕ) → Change
shorten path size time = plain (volume.shorten path size time)

abbrev pub replace : (path bytes : List ℕ) (time : ℕ) → Change
replace path bytes time = plain (volume.replace path bytes time)

abbrev pub move : (path to : List ℕ) → Change
move path to = plain (volume.move path to)

-- L10: a put in the root
abbrev pub put : (serial : List ℕ) (time : ℕ) (bytes : List ℕ) → Change
put serial time bytes = put_in root serial time bytes

-- the refusal by the numbers 9 to 26, or 0
unfoldable pub refusal : List ℕ → Change → ℕ
refusal s (plain c) = volume.refusal s c
refusal s (put_in directory serial time bytes) = put_refusal s directory serial time bytes

-- of an accepted change: the image after it, its named blocks (in any order), and the number that it answers: the slot of create (of a directory too) and of
-- move, the revision of put
unfoldable pub after : List ℕ → Change → List ℕ
after s (plain c) = volume.after s c
after s (put_in directory serial time bytes) = put_image s directory serial time bytes

unfoldable pub named : List ℕ → Change → List ℕ
named s (plain c) = volume.named s c
named s (put_in directory serial time bytes) = put_named s directory serial time bytes

unfoldable pub slot_given : List ℕ → Change → ℕ
slot_given s (plain c) = volume.slot_given s c
slot_given s (put_in directory serial time bytes) = put_revision s directory serial

-- the path that a change is about
unfoldable pub subject : Change → List ℕ
subject (plain c) = views.subject c
subject (put_in directory serial time bytes) = path_of directory serial

-- of a move also the path where its file is then; and all the paths that a change is about
unfoldable pub further : Change → List (List ℕ)
further (plain c) = views.further c
further (put_in directory serial time bytes) = []

abbrev pub subjects : Change → List (List ℕ)
subjects c = subject c ∷ further c
