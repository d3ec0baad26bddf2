-- What opening a file or a directory gives.
use Rattle.std.specs.Prelude.{ℕ, Result, Ok, Err, ◌*◌, ◌<◌, Bool, not, List, ◌≡◌, eqb}
use Rattle.layout.specs.declared.file.File.{File}
use Rattle.layout.specs.declared.refusal.Refusal.{Refusal}
use Rattle.layout.specs.Reasons.{number_of}
use Rattle.layout.specs.Refusals.{require}
use Rattle.layout.specs.Geometry.{block_count}
use Rattle.layout.specs.Directory.{first_block, size_of, blocks_of}
use Rattle.layout.specs.Paths.{parts, path_ok, leading, shallow, path_slot, entry_of}
use Rattle.layout.specs.Looks.{listed_refusal, listed_block}
use Rattle.layout.specs.Walks.Shapes.{DirectoryAt}
use Rattle.layout.specs.Walks.Slots.{entry_at}

-- the refusals of a path by itself, 9 and 17: of a file's, and of a directory's, where the last part counts; 10, if no entry of the type is there
unfoldable pub form_refusal : List ℕ → ℕ
form_refusal path = require (path_ok path) 9 (require (shallow (leading (parts path))) 17 0)

unfoldable pub whole_refusal : List ℕ → ℕ
whole_refusal path = require (path_ok path) 9 (require (shallow (parts path)) 17 0)

unfoldable pub found_refusal : (ℕ → Bool) → List ℕ → List ℕ → ℕ
found_refusal type s path = require (not (eqb (path_slot type s path) 0)) 10 0

-- the entry of a path, among those whose type passes: its slot, the block that holds it, and its numbers
pub record Located (type : ℕ → Bool) (s path : List ℕ) (slot block first size blocks : ℕ) : Type 0 where
  pub found : slot ≡ path_slot type s path
  pub low : slot < 256
  pub inside : block < block_count s
  pub place : entry_at block slot ≡ entry_of type s path
  pub start : first ≡ first_block s (entry_of type s path)
  pub bytes : size ≡ size_of s (entry_of type s path)
  pub count : blocks ≡ blocks_of s (entry_of type s path)

-- "Every refusal returns its number and zeros"
pub record NoFile (slot block first size blocks : ℕ) : Type 0 where
  pub no_slot : slot ≡ 0
  pub no_block : block ≡ 0
  pub no-first : first ≡ 0
  pub no_size : size ≡ 0
  pub no_blocks : blocks ≡ 0

-- what opening one gives: the number of its refusal, and if that is 0, the entry
pub record Opens (type : ℕ → Bool) (s path : List ℕ) (refusal number slot block first size blocks : ℕ) : Type 0 where
  pub number_is : number ≡ refusal
  pub file : number ≡ 0 → Located type s path slot block first size blocks
  pub none : (number ≡ 0 → ⊥) → NoFile slot block first size blocks

-- the same of an answer: the entry, or the reason of its refusal
abbrev pub Opened : (ℕ → Bool) → List ℕ → List ℕ → ℕ → Result File Refusal → Type 0
Opened type s path refusal (Ok f) = Opens type s path refusal 0 f.slot f.block f.first f.size f.blocks
Opened type s path refusal (Err why) = number_of why ≡ refusal

-- a directory to be listed: the number of its refusal, and if that is 0, its first block
pub record Lists (s path : List ℕ) (number first : ℕ) : Type 0 where
  pub number_is : number ≡ listed_refusal s path
  pub start : number ≡ 0 → first ≡ listed_block s path
  pub there : number ≡ 0 → DirectoryAt s (block_count s) first (blocks_of s (512 * first))

abbrev pub Listed : List ℕ → List ℕ → Result ℕ Refusal → Type 0
Listed s path (Ok first) = Lists s path 0 first
Listed s path (Err why) = number_of why ≡ listed_refusal s path
