-- The change that a value of the code's enum asks for, with the path (of a put its directory and its serial number) and the data beside it.
use Rattle.std.specs.Prelude.{ℕ, List}
use Rattle.volume.specs.Asked as volume
use Rattle.store.specs.declared.change.Change.{Change}
use Rattle.store.specs.declared.change.Change.TheVariants as kinds
use Rattle.store.specs.Put.{root}
use Rattle.store.specs.Change as rules

abbrev pub asked_in : Change → (directory path bytes : List ℕ) → rules.Change
asked_in (kinds.Volume c) directory path bytes = rules.plain (volume.asked c path bytes)
asked_in (kinds.Put time) directory path bytes = rules.put_in directory path time bytes

-- with no directory beside the path: a put is in the root
abbrev pub asked : Change → (path bytes : List ℕ) → rules.Change
asked c path bytes = asked_in c root path bytes
