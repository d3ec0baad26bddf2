-- Code-facing: what was found for a change, as the code hands it on.
use Rattle.std.specs.Prelude.{ℕ, Result, Ok, Err, ◌<◌, ◌≡◌, List}
use Rattle.layout.specs.declared.file.File.{File}
use Rattle.layout.specs.declared.refusal.Refusal.{Refusal}
use Rattle.layout.specs.Reasons.{number_of}
use Rattle.layout.specs.Geometry.{block_count}
use Rattle.layout.specs.Directory.{is_file, is_directory}
use Rattle.layout.specs.Paths.{entry_of}
use Rattle.layout.specs.Walks.Slots.{entry_at}
use Rattle.layout.specs.Walks.Looks.{Located}
use Rattle.volume.specs.Change.{Change, create, write, delete, create_directory, delete_directory, set_attributes, clear_attributes, clear_flags, shorten, replace, refusal, move}
use Rattle.volume.specs.Move.{move_slot, move_place}
use Rattle.volume.specs.declared.change.Change as code
use Rattle.volume.specs.declared.change.Change.TheVariants as kinds
use Rattle.volume.specs.Walks.Places.{Vacant}

-- a file that was found: some path leads to it, of which what is asked is not refused
pub record Standing (s : List ℕ) (refusal : List ℕ → ℕ) (slot block first size blocks : ℕ) : Type 0 where
  pub path : List ℕ
  pub accepted : refusal path ≡ 0
  pub located : Located is_file s path slot block first size blocks

-- where the entry of a move goes, and the slot and block where it stands
pub record Moving (s path to : List ℕ) (slot block oldSlot oldBlock : ℕ) : Type 0 where
  pub lowest : slot ≡ move_slot s path to
  pub low : slot < 256
  pub inside : block < block_count s
  pub here : entry_at block slot ≡ move_place s path to
  pub old-inside : oldBlock < block_count s
  pub old : entry_at oldBlock oldSlot ≡ entry_of is_file s path

-- what an accepted change is about: the entry of its path, or the place of a new one, where `first` is the first block of the directory; of a
-- move the place that its entry goes to, and its own slot and block as `first` and `size`
unfoldable pub Target : List ℕ → Change → (slot block first size blocks : ℕ) → Type 0
Target s (create path type user group permissions flags time) slot block first size blocks = Vacant s path first slot block
Target s (write path offset bytes time) slot block first size blocks = Located is_file s path slot block first size blocks
Target s (delete path) slot block first size blocks = Located is_file s path slot block first size blocks
Target s (create_directory path type user group permissions flags time d) slot block first size blocks = Vacant s path first slot block
Target s (delete_directory path) slot block first size blocks = Located is_directory s path slot block first size blocks
Target s (set_attributes path bytes) slot block first size blocks = Located is_file s path slot block first size blocks
Target s (clear_attributes path) slot block first size blocks = Located is_file s path slot block first size blocks
Target s (clear_flags path) slot block first size blocks = Located is_file s path slot block first size blocks
Target s (shorten path length time) slot block first size blocks = Located is_file s path slot block first size blocks
Target s (replace path bytes time) slot block first size blocks = Located is_file s path slot block first size blocks
Target s (move path to) slot block first size blocks = Moving s path to slot block first size

-- what preparing a change gives: the number of its refusal, and if that is 0, what it is about
pub record Prepared (s : List ℕ) (c : Change) (number slot block first size blocks : ℕ) : Type 0 where
  pub number_is : number ≡ refusal s c
  pub target : number ≡ 0 → Target s c slot block first size blocks

-- the same of an answer: what it is about, or the reason of its refusal
abbrev pub PreparedFor : List ℕ → Change → Result File Refusal → Type 0
PreparedFor s c (Ok f) = Prepared s c 0 f.slot f.block f.first f.size f.blocks
PreparedFor s c (Err why) = number_of why ≡ refusal s c

-- the slot that a change of the code answers, if `slot` is that of what it is about
unfoldable pub answered : code.Change → ℕ → ℕ
answered (kinds.Create given) slot = slot
answered (kinds.Write offset time) slot = 0
answered kinds.Delete slot = 0
answered (kinds.CreateDirectory given blocks) slot = slot
answered kinds.DeleteDirectory slot = 0
answered kinds.SetAttributes slot = 0
answered kinds.ClearAttributes slot = 0
answered kinds.ClearFlags slot = 0
answered (kinds.Shorten size time) slot = 0
answered (kinds.Replace time) slot = 0
answered kinds.Move slot = slot
