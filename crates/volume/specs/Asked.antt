-- The change that a value of the code's enum asks for, with the path and the data beside it; the data of a move is its second path.
use Rattle.std.specs.Prelude.{ℕ, List}
use Rattle.volume.specs.declared.change.Change.{Change}
use Rattle.volume.specs.declared.change.Change.TheVariants as kinds
use Rattle.volume.specs.Change as rules

abbrev pub asked : Change → (path bytes : List ℕ) → rules.Change
asked (kinds.Create given) path bytes = rules.create path given.kind given.user given.group given.permissions given.flags given.time
asked (kinds.Write offset time) path bytes = rules.write path offset bytes time
asked kinds.Delete path bytes = rules.delete path
asked (kinds.CreateDirectory given blocks) path bytes = rules.create_directory path given.kind given.user given.group given.permissions given.flags given.time blocks
asked kinds.DeleteDirectory path bytes = rules.delete_directory path
asked kinds.SetAttributes path bytes = rules.set_attributes path bytes
asked kinds.ClearAttributes path bytes = rules.clear_attributes path
asked kinds.ClearFlags path bytes = rules.clear_flags path
asked (kinds.Shorten size time) path bytes = rules.shorten path size time
asked (kinds.Replace time) path bytes = rules.replace path bytes time
asked kinds.Move path bytes = rules.move path bytes
