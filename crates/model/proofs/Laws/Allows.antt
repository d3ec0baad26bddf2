-- What an accepted change must find at its path, that there is room, and that nothing is where a move goes: as tests of the model. (`refusal_in` says more;
-- these are what the proofs go by.)
use Prim.Native.Nat.{◌+◌}
use mathlib.Core.Bool.{Bool, true, false, ◌&&◌}
use lib.ListN.{length}
use lib.Dec.{leb}
use Rattle.layout.specs.Lists.{every}
use Rattle.volume.specs.Change.{create, write, delete, create_directory, delete_directory, set_attributes, clear_attributes, clear_flags, shorten, replace, move}
use Rattle.store.specs.Change.{Change, plain, put_in, subject, further}
use Rattle.model.specs.Model.{File, Node, nothing, file, folder, Model, blocks, becomes, shows_nothing, shows_file, shows_folder}

abbrev pub only_file : (File → Bool) → Node → Bool
only_file test nothing = false
only_file test (file f) = test f
only_file test (folder d) = false

abbrev pub not_folder : Node → Bool
not_folder nothing = true
not_folder (file f) = true
not_folder (folder d) = false

unfoldable pub suits : Change → Node → Bool
suits (plain (create path type user group permissions flags time)) x = shows_nothing x
suits (plain (write path offset bytes time)) x = only_file (λ f. leb offset (length f.bytes)) x
suits (plain (delete path)) x = shows_file x
suits (plain (create_directory path type user group permissions flags time size)) x = shows_nothing x
suits (plain (delete_directory path)) x = shows_folder x
suits (plain (set_attributes path bytes)) x = shows_file x
suits (plain (clear_attributes path)) x = shows_file x
suits (plain (clear_flags path)) x = shows_file x
suits (plain (shorten path size time)) x = only_file (λ f. leb size (length f.bytes)) x
suits (plain (replace path bytes time)) x = shows_file x
suits (plain (move path to)) x = shows_file x
suits (put_in directory serial time bytes) x = not_folder x

unfoldable pub allows : Model → Change → Bool
allows m c =
    let x = m.at (subject c) in
    suits c x && (leb (blocks (becomes c x)) (m.free + blocks x) && every (λ to. shows_nothing (m.at to)) (further c))
