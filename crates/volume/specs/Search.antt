-- The search for a free block, and its notes (L3: "Let the search pass over a table block that has no zero entry below n in one go: a note for each, made
-- afresh in each call and kept right as blocks are taken, says exactly whether it has one"). Note i is of the table block with the entries of the blocks
-- b with b / 128 = i; 0 says that the block is full.
use Rattle.std.specs.Prelude.{ℕ, ◌-◌, ◌*◌, ◌/◌, ◌≤◌, ◌<◌, ◌≡◌, Bool, not, ◌&&◌, List, ◌≢◌, eqb, length, get_or}
use Rattle.layout.specs.Limits.{min_blocks, max_blocks}
use Rattle.layout.specs.Lists.{interval, select}
use Rattle.layout.specs.Bytes.{be32}
use Rattle.layout.specs.Geometry.{table_blocks}
use Rattle.layout.specs.Table.{next}

-- the lowest number from a on, below n, that passes a test; n if there is none
abbrev pub first_from : (ℕ → Bool) → ℕ → ℕ → ℕ
first_from p a n = get_or (select p (interval a (n - a))) 0 n

-- "Every answer stays: still the lowest free block": that from a on, below n; n if there is none
unfoldable pub lowest_free : (ℕ → ℕ) → ℕ → ℕ → ℕ
lowest_free v a n = first_from (λ b. eqb (v b) 0) a n

-- table block i is full: no entry of it below n is 0
abbrev pub Full : (ℕ → ℕ) → ℕ → ℕ → Type 0
Full v n i = (b : ℕ) → b / 128 ≡ i → b < n → v b ≢ 0

-- x is a right note of table block i: it is 0 exactly if the block is full
pub record Noted (v : ℕ → ℕ) (n i x : ℕ) : Type 0 where
  pub full : x ≡ 0 → Full v n i
  pub some : x ≢ 0 → (b : ℕ) × (b / 128 ≡ i) × (b < n) × (v b ≡ 0)

-- every note is right, and every table block has one
pub record Exact (v : ℕ → ℕ) (n : ℕ) (notes : List ℕ) : Type 0 where
  pub room : n ≤ 128 * length notes
  pub right : (i : ℕ) → i < length notes → Noted v n i (get_or notes i 0)

-- the table block with the entry of block b is noted as full
abbrev pub noted_full : List ℕ → ℕ → Bool
noted_full notes b = eqb (get_or notes (b / 128) 0) 0

-- what the search gives by any notes: the lowest free block from a on, below n, whose table block is not noted as full; n if there is none
unfoldable pub searched : List ℕ → (ℕ → ℕ) → ℕ → ℕ → ℕ
searched notes v a n = first_from (λ b. not (noted_full notes b) && eqb (v b) 0) a n

-- of the notes only note i was made anew
pub record Renoted (v : ℕ → ℕ) (n i : ℕ) (notes notes' : List ℕ) : Type 0 where
  pub size : length notes' ≡ length notes
  pub here : Noted v n i (get_or notes' i 0)
  pub others : (j : ℕ) → j ≢ i → get_or notes' j 0 ≡ get_or notes j 0

-- in an image of n blocks the free block b can be taken, behind the block `last` (0: there is none)
pub record Takeable (s : List ℕ) (n last b : ℕ) : Type 0 where
  pub whole : length s ≡ 512 * n
  pub low : min_blocks ≤ n
  pub high : n ≤ max_blocks
  pub inside : last < n
  pub used : 0 < last → next s last ≢ 0
  pub below : b < n
  pub above : table_blocks n < b
  pub free : next s b ≡ 0
  pub counted : be32 s 20 < n
