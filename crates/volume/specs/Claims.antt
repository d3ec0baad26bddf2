-- The words of the theorems about changes that are no views: what a reader must believe to read them.
use Rattle.std.specs.Prelude.{ℕ, ◌+◌, ◌*◌, ◌/◌, ◌%◌, ◌≤◌, ◌<◌, ◌≡◌, true, false, List, map, ◌≢◌, length}
use Rattle.layout.specs.Limits.{max_data, max_attributes}
use Rattle.layout.specs.Lists.{has, same}
use Rattle.layout.specs.Bytes.{block, zeros}
use Rattle.layout.specs.Geometry.{block_count}
use Rattle.layout.specs.Table.{next, free_blocks}
use Rattle.layout.specs.Directory.{size_of, is_file, dirs, attribute_blocks}
use Rattle.layout.specs.Paths.{entry_of, file_refusal}
use Rattle.layout.specs.Claims.{is_inside}
use Rattle.volume.specs.Write.{needed}

-- 14 of a set of attributes: "A set first frees the old chain, whose blocks count as free"
pub record NoRoomForSet (s path : List ℕ) (count : ℕ) : Type 0 where
  pub some : 1 ≤ count
  pub whole : count % 512 ≡ 0
  pub few : count ≤ 512 * max_attributes
  pub there : file_refusal s path ≡ 0
  pub lacking : length (free_blocks (next s) (block_count s)) + length (attribute_blocks s (entry_of is_file s path)) < count / 512

-- L7, "Freeing a block now also zeroes its 512 bytes", "Blocks that were free before aren't touched": what a change from s to s' leaves in the blocks
-- that are free after it. Those that were in use hold only zeros, those that were free hold what they held.
pub record Blanked (s s' : List ℕ) : Type 0 where
  pub freed : (b : ℕ) → b < block_count s → next s b ≢ 0 → next s' b ≡ 0 → block s' b ≡ zeros 512
  pub spared : (b : ℕ) → b < block_count s → next s b ≡ 0 → next s' b ≡ 0 → block s' b ≡ block s b

-- 14, "fewer free blocks than needed", of a write: no lower number applies, and fewer blocks are free than needed
pub record NoRoom (s path : List ℕ) (offset count : ℕ) : Type 0 where
  pub few : count ≤ max_data
  pub there : file_refusal s path ≡ 0
  pub within-size : offset ≤ size_of s (entry_of is_file s path)
  pub lacking : length (free_blocks (next s) (block_count s)) < needed s (entry_of is_file s path) offset count

-- L13, "on different paths, neither inside the other"
pub record Apart (path other : List ℕ) : Type 0 where
  pub differ : path ≢ other
  pub outside : is_inside path other ≡ false
  pub around : is_inside other path ≡ false

-- N2: the paths of two changes, of which a move has two: no path of one is a path of the other
abbrev pub Aside : List (List ℕ) → List (List ℕ) → Type 0
Aside paths others = (path : List ℕ) → has same path paths ≡ true → has same path others ≡ false

-- the first blocks of all directories
abbrev pub fronts : List ℕ → List ℕ
fronts s = map (λ (d : ℕ × ℕ). d.0) (dirs s)
