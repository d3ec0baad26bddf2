-- Loading and storing the table (FORMAT.md, 12: "the chain table is loaded once into a lent run of 32-bit numbers, one per block, and stored back").
use Rattle.std.specs.Prelude.{ℕ, List, length, eqb}
use Rattle.layout.specs.Refusals.{require, first_of, accept}
use Rattle.layout.specs.Geometry.{block_count}
use Rattle.layout.specs.Table.{next}
use Rattle.layout.specs.Check.{check}
use Rattle.chain_table.specs.Numbers.{entries_of, stored}

-- 1 to 7 by the check; "21 when the lent run is not exactly n long"
unfoldable pub table_refusal : List ℕ → ℕ → ℕ
table_refusal s count = first_of (check s) (require (eqb count (block_count s)) 21 0)

pub record Loaded : Type 0 where
  pub number : ℕ
  pub numbers : List ℕ

pub record Stored : Type 0 where
  pub number : ℕ
  pub image : List ℕ

-- what a load gives, and the numbers after it; what a store gives, and the image after it: a refusal changes nothing
unfoldable pub load_table : List ℕ → List ℕ → Loaded
load_table s xs =
    let number = table_refusal s (length xs) in
    record { number = number; numbers = accept number (entries_of (next s) (block_count s)) xs }

unfoldable pub store_table : List ℕ → List ℕ → Stored
store_table s xs =
    let number = table_refusal s (length xs) in
    record { number = number; image = accept number (stored s xs) s }
