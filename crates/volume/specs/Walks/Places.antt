-- Code-facing: where a new entry goes.
use Rattle.std.specs.Prelude.{ℕ, Result, Ok, Err, ◌<◌, ◌≡◌, List, eqb}
use Rattle.layout.specs.declared.file.File.{File}
use Rattle.layout.specs.declared.refusal.Refusal.{Refusal}
use Rattle.layout.specs.Reasons.{number_of}
use Rattle.layout.specs.Refusals.{require, first_of}
use Rattle.layout.specs.Geometry.{block_count}
use Rattle.layout.specs.Paths.{home}
use Rattle.layout.specs.Walks.Slots.{entry_at}
use Rattle.volume.specs.Create.{create_slot, place}

-- 26, which comes just after 9 and 17, the refusals by the path's form
unfoldable pub brought_refusal : (form flags : ℕ) → ℕ
brought_refusal form flags = first_of form (require (eqb flags 0) 26 0)

-- the directory at block h, and the free slot in it, which is in block b
pub record Vacant (s path : List ℕ) (h slot b : ℕ) : Type 0 where
  pub there : h ≡ home s path
  pub lowest : slot ≡ create_slot s path
  pub low : slot < 256
  pub inside : b < block_count s
  pub here : entry_at b slot ≡ place s path

-- what a search gives: the number of its refusal, and if that is 0, the place
pub record Searched (s path : List ℕ) (refusal number h slot b : ℕ) : Type 0 where
  pub number_is : number ≡ refusal
  pub vacant : number ≡ 0 → Vacant s path h slot b

-- the same of an answer: the place, or the reason of its refusal
abbrev pub SearchedFor : List ℕ → List ℕ → ℕ → Result File Refusal → Type 0
SearchedFor s path refusal (Ok f) = Searched s path refusal 0 f.first f.slot f.block
SearchedFor s path refusal (Err why) = number_of why ≡ refusal
