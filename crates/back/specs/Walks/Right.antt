-- What the walks from record to record, and the loops that take records back, ask for and give.
use Rattle.std.specs.Prelude.{ℕ, ◌*◌, ◌≤◌, ◌≡◌, true, List, ◌++◌, length, take}
use Rattle.layout.specs.Limits.{max_blocks}
use Rattle.layout.specs.Geometry.{block_count}
use Rattle.journal.specs.Journal.{records, well_formed}

-- a journal that is well formed for an image of some number of blocks
pub record Right (j : List ℕ) : Type 0 where
  pub blocks : ℕ
  pub well-formed : well_formed j blocks ≡ true

-- an image of whole blocks, sound or not, with a well-formed journal
pub record Whole (s j : List ℕ) : Type 0 where
  pub whole : length s ≡ 512 * block_count s
  pub blocks : block_count s ≤ max_blocks
  pub well-formed : well_formed j (block_count s) ≡ true

-- the first numbers of a list are the offsets of the last records, so many, in order
pub record Noted (j offsets : List ℕ) (count : ℕ) : Type 0 where
  pub front : List ℕ
  pub whole : records j ≡ front ++ take count offsets
  pub fits : count ≤ length offsets
