-- Code-facing: the tests of a move.
use Rattle.std.specs.Prelude.{Result, Ok, Err, ℕ, Bool, cond, ◌||◌, List, ◌≡◌, eqb}
use Rattle.layout.specs.declared.file.File.{File}
use Rattle.layout.specs.declared.refusal.Refusal.{Refusal}
use Rattle.layout.specs.Reasons.{number_of}
use Rattle.layout.specs.Refusals.{first_of}
use Rattle.layout.specs.Directory.{type_of, is_free}
use Rattle.volume.specs.Move.{move_refusal}
use Rattle.volume.specs.Walks.Targets.{Moving}

-- the refusals of two paths by themselves, 9 before 17
unfoldable pub either_form : ℕ → ℕ → ℕ
either_form x y = cond (eqb x 9 || eqb y 9) 9 (first_of x y)

-- the slot that begins at e is free, or is the one that begins at `own`
abbrev pub slot_open : List ℕ → ℕ → ℕ → Bool
slot_open s own e = is_free (type_of s e) || eqb e own

-- what preparing a move gives: the number of its refusal, and if that is 0, where its entry goes and where it stands
pub record Prepares (s path to : List ℕ) (number slot block oldSlot oldBlock : ℕ) : Type 0 where
  pub number_is : number ≡ move_refusal s path to
  pub moving : number ≡ 0 → Moving s path to slot block oldSlot oldBlock

-- the same of an answer
abbrev pub PreparesFor : List ℕ → List ℕ → List ℕ → Result File Refusal → Type 0
PreparesFor s path to (Ok f) = Prepares s path to 0 f.slot f.block f.first f.size
PreparesFor s path to (Err why) = number_of why ≡ move_refusal s path to
