-- The changes with what each call brings, and the rules of all in one place. On a sound image.
use Rattle.std.specs.Prelude.{ℕ, List, length}
use Rattle.volume.specs.Create.{create_refusal, create_slot, create_image, create_named}
use Rattle.volume.specs.Write.{write_refusal, write_at, write_named}
use Rattle.volume.specs.Delete.{delete_at, delete_named}
use Rattle.volume.specs.Attributes.{set_attributes_refusal, set_attributes_at, set_attributes_named, clear_attributes_at, clear_attributes_named}
use Rattle.volume.specs.Flags.{clear_flags_at, clear_flags_named}
use Rattle.volume.specs.Shorten.{shorten_refusal, shorten_at, shorten_named}
use Rattle.volume.specs.Replace.{replace_refusal, replace_at, replace_named}
use Rattle.volume.specs.Move.{move_refusal, move_slot, move_image, move_named}
use Rattle.volume.specs.Directories.{create_directory_refusal, create_directory_image, create_directory_named, delete_directory_refusal}
use Rattle.layout.specs.Directory.{is_file, is_directory}
use Rattle.layout.specs.Paths.{file_refusal, entry_of}

pub data Change : Type 0 where
  create : (path : List ℕ) (type user group permissions flags time : ℕ) → Change
  write : (path : List ℕ) (offset : ℕ) (bytes : List ℕ) (time : ℕ) → Change
  delete : (path : List ℕ) → Change
  create_directory : (path : List ℕ) (type user group permissions flags time d : ℕ) → Change
  delete_directory : (path : List ℕ) → Change
  set_attributes : (path bytes : List ℕ) → Change
  clear_attributes : (path : List ℕ) → Change
  clear_flags : (path : List ℕ) → Change
  shorten : (path : List ℕ) (size time : ℕ) → Change
  replace : (path bytes : List ℕ) (time : ℕ) → Change
  move : (path to : List ℕ) → Change

-- the refusal by the numbers 9 to 26, or 0
unfoldable pub refusal : List ℕ → Change → ℕ
refusal s (create path type user group permissions flags time) = create_refusal s path type flags
refusal s (write path offset bytes time) = write_refusal s path offset (length bytes)
refusal s (delete path) = file_refusal s path
refusal s (create_directory path type user group permissions flags time d) = create_directory_refusal s path type flags d
refusal s (delete_directory path) = delete_directory_refusal s path
refusal s (set_attributes path bytes) = set_attributes_refusal s path (length bytes)
refusal s (clear_attributes path) = file_refusal s path
refusal s (clear_flags path) = file_refusal s path
refusal s (shorten path size time) = shorten_refusal s path size
refusal s (replace path bytes time) = replace_refusal s path (length bytes)
refusal s (move path to) = move_refusal s path to

-- of an accepted change: the image after it, its named blocks (in any order), and the slot that it answers (create, of a directory too; move)
unfoldable pub after : List ℕ → Change → List ℕ
after s (create path type user group permissions flags time) = create_image s path type user group permissions flags time
after s (write path offset bytes time) = write_at s (entry_of is_file s path) offset bytes time
after s (delete path) = delete_at s (entry_of is_file s path)
after s (create_directory path type user group permissions flags time d) = create_directory_image s path type user group permissions flags time d
after s (delete_directory path) = delete_at s (entry_of is_directory s path)
after s (set_attributes path bytes) = set_attributes_at s (entry_of is_file s path) bytes
after s (clear_attributes path) = clear_attributes_at s (entry_of is_file s path)
after s (clear_flags path) = clear_flags_at s (entry_of is_file s path)
after s (shorten path size time) = shorten_at s (entry_of is_file s path) size time
after s (replace path bytes time) = replace_at s (entry_of is_file s path) bytes time
after s (move path to) = move_image s path to

unfoldable pub named : List ℕ → Change → List ℕ
named s (create path type user group permissions flags time) = create_named s path
named s (write path offset bytes time) = write_named s (entry_of is_file s path) offset (length bytes)
named s (delete path) = delete_named s (entry_of is_file s path)
named s (create_directory path type user group permissions flags time d) = create_directory_named s path d
named s (delete_directory path) = delete_named s (entry_of is_directory s path)
named s (set_attributes path bytes) = set_attributes_named s (entry_of is_file s path) (length bytes)
named s (clear_attributes path) = clear_attributes_named s (entry_of is_file s path)
named s (clear_flags path) = clear_flags_named (entry_of is_file s path)
named s (shorten path size time) = shorten_named s (entry_of is_file s path) size
named s (replace path bytes time) = replace_named s (entry_of is_file s path) (length bytes)
named s (move path to) = move_named s path to

unfoldable pub slot_given : List ℕ → Change → ℕ
slot_given s (create path type user group permissions flags time) = create_slot s path
slot_given s (write path offset bytes time) = 0
slot_given s (delete path) = 0
slot_given s (create_directory path type user group permissions flags time d) = create_slot s path
slot_given s (delete_directory path) = 0
slot_given s (set_attributes path bytes) = 0
slot_given s (clear_attributes path) = 0
slot_given s (clear_flags path) = 0
slot_given s (shorten path size time) = 0
slot_given s (replace path bytes time) = 0
slot_given s (move path to) = move_slot s path to
