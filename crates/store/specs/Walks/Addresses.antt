-- Code-facing: a directory and a serial number that make a path.
use Rattle.std.specs.Prelude.{ℕ, ◌≡◌, true, List}
use Rattle.layout.specs.Paths.{parts, leading, shallow}
use Rattle.store.specs.Put.{serial_ok, directory_ok, path_of}

-- what the refusals 22 and 17 have asked of them
pub record Addressed (directory serial : List ℕ) : Type 0 where
  pub folder : directory_ok directory ≡ true
  pub named : serial_ok serial ≡ true
  pub flat : shallow (leading (parts (path_of directory serial))) ≡ true

-- the most bytes that stand before the serial number's `/`: 8 directories of a `/` and 80 bytes
abbrev pub max_front : ℕ
max_front = 648
