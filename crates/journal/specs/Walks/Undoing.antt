-- Taking a record back.
use Rattle.std.specs.Prelude.{ℕ, ◌+◌, ◌*◌, ◌≤◌, ◌≡◌, List, map, true, length, ltb}
use Rattle.layout.specs.Lists.{interval, every}
use Rattle.layout.specs.Limits.{max_blocks}
use Rattle.layout.specs.Geometry.{block_count}
use Rattle.journal.specs.Journal.{block_at, well_formed, last_record}

-- a record at an offset, of k blocks of an image
pub record Saved (s j : List ℕ) (n at k : ℕ) : Type 0 where
  pub whole : length s ≡ 512 * n
  pub blocks : n ≤ max_blocks
  pub inside : at + 4 + 516 * k ≤ length j
  pub below : every (λ b. ltb b n) (map (block_at j at) (interval 0 k)) ≡ true

-- an image of whole blocks, sound or not, with a well-formed journal, whose last record begins at an offset
pub record Last (s j : List ℕ) (at : ℕ) : Type 0 where
  pub whole : length s ≡ 512 * block_count s
  pub blocks : block_count s ≤ max_blocks
  pub well-formed : well_formed j (block_count s) ≡ true
  pub last : at ≡ last_record j
  pub some : at ≡ 0 → ⊥
