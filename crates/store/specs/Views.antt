-- What any change makes of what its own path shows, a put too. What a path shows, and what the volume's changes make of it, is in the volume's Views.
use Rattle.std.specs.Prelude.{ℕ, List, [], length}
use Rattle.volume.specs.Change as changes
use Rattle.volume.specs.Views as volume
use Rattle.volume.specs.Views.{File, Folder, Maybe, nothing, just, count}
use Rattle.store.specs.Settings.{encoded, Found, held, revisions, added}
use Rattle.store.specs.Put.{path_of, held_in}
use Rattle.store.specs.Change.{Change, plain, put_in}

-- a put by the file that its path shows, or none (FORMAT.md, 14): the revisions in it, its length, the file once it is there, and the one write to it
abbrev pub stored_in : Maybe File → Found
stored_in nothing = held []
stored_in (just f) = revisions f.bytes

abbrev pub length_in : Maybe File → ℕ
length_in m = count m (λ f. length f.bytes)

abbrev pub opened_in : List ℕ → List ℕ → ℕ → Maybe File → Maybe File
opened_in directory serial time nothing = volume.made (changes.create (path_of directory serial) 0x60 0 0 0 0 time) nothing
opened_in directory serial time (just f) = just f

abbrev pub write_in : List ℕ → List ℕ → ℕ → List ℕ → Maybe File → changes.Change
write_in directory serial time bytes m = changes.write (path_of directory serial) 0 (encoded (added (held_in (stored_in m)) bytes) (length_in (opened_in directory serial time m))) time

-- what an accepted change makes of the file and of the directory that its path shows
unfoldable pub made : Change → Maybe File → Maybe File
made (plain c) m = volume.made c m
made (put_in directory serial time bytes) m = volume.made (write_in directory serial time bytes m) (opened_in directory serial time m)

unfoldable pub made_folder : Change → Maybe Folder → Maybe Folder
made_folder (plain c) m = volume.made_folder c m
made_folder (put_in directory serial time bytes) m = m

-- the blocks that it takes, and those that it gives back of the file and of the directory
unfoldable pub takes : Change → Maybe File → ℕ
takes (plain c) m = volume.takes c m
takes (put_in directory serial time bytes) m = volume.takes (write_in directory serial time bytes m) (opened_in directory serial time m)

unfoldable pub gives : Change → Maybe File → ℕ
gives (plain c) m = volume.gives c m
gives (put_in directory serial time bytes) m = 0

unfoldable pub gives_folder : Change → Maybe Folder → ℕ
gives_folder (plain c) m = volume.gives_folder c m
gives_folder (put_in directory serial time bytes) m = 0
