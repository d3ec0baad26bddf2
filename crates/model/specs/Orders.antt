-- L13 in its own words: two creates, writes or deletes.
use Rattle.std.specs.Prelude.{ℕ, List}
use Rattle.store.specs.Change.{Change, create, write, delete}

pub data Clerk : Type 0 where
  creates : (path : List ℕ) (type user group permissions flags time : ℕ) → Clerk
  writes : (path : List ℕ) (offset : ℕ) (bytes : List ℕ) (time : ℕ) → Clerk
  deletes : (path : List ℕ) → Clerk

abbrev pub asks : Clerk → Change
asks (creates path type user group permissions flags time) = create path type user group permissions flags time
asks (writes path offset bytes time) = write path offset bytes time
asks (deletes path) = delete path

abbrev pub path_of : Clerk → List ℕ
path_of (creates path type user group permissions flags time) = path
path_of (writes path offset bytes time) = path
path_of (deletes path) = path
