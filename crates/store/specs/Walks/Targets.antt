-- Code-facing: what was found for a change, as the code hands it on.
use Rattle.std.specs.Prelude.{Result, Ok, Err, ℕ, ◌≡◌, List}
use Rattle.layout.specs.declared.file.File.{File}
use Rattle.layout.specs.declared.refusal.Refusal.{Refusal}
use Rattle.layout.specs.Reasons.{number_of}
use Rattle.volume.specs.Walks.Targets as volume
use Rattle.store.specs.Change.{Change, plain, put_in, refusal}
use Rattle.store.specs.Walks.Puts.{PutTarget}

-- what an accepted change is about: the entry of its path, or the place of a new one
unfoldable pub Target : List ℕ → Change → (slot block first size blocks : ℕ) → Type 0
Target s (plain c) slot block first size blocks = volume.Target s c slot block first size blocks
Target s (put_in directory serial time bytes) slot block first size blocks = PutTarget s directory serial slot block first size blocks

-- what preparing a change gives: the number of its refusal, and if that is 0, what it is about
pub record Prepared (s : List ℕ) (c : Change) (number slot block first size blocks : ℕ) : Type 0 where
  pub number_is : number ≡ refusal s c
  pub target : number ≡ 0 → Target s c slot block first size blocks

-- the same of an answer: what it is about, or the reason of its refusal
abbrev pub PreparedFor : List ℕ → Change → Result File Refusal → Type 0
PreparedFor s c (Ok f) = Prepared s c 0 f.slot f.block f.first f.size f.blocks
PreparedFor s c (Err why) = number_of why ≡ refusal s c
