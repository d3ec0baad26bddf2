-- The scan of a journal.
use Rattle.std.specs.Prelude.{ℕ, ◌≤◌, ◌≡◌, ◌≢◌, Option, unwrap_or, IfSome, List, map, Bool, ◌&&◌, cond, length, get_or, eqb, ltb}
use Rattle.layout.specs.Lists.{within, interval, every}
use Rattle.layout.specs.Limits.{max_blocks, min_journal, max_journal}
use Rattle.journal.specs.Journal.{used, block_at, rising, last_record}

-- what is asked of the bytes before the first record
unfoldable pub head_ok : List ℕ → Bool
head_ok j = within min_journal max_journal (length j) && (eqb (get_or j 0 0) 1 && within 5 (length j) (used j))

-- a journal whose head is right, its used length u, and the blocks of the image lent with it
pub record Headed (j : List ℕ) (u n : ℕ) : Type 0 where
  pub used-is : u ≡ used j
  pub low : 5 ≤ u
  pub high : u ≤ length j
  pub short : length j ≤ max_journal
  pub blocks : n ≤ max_blocks

-- of the record at an offset, the numbers of the k blocks from the i-th on: they rise from lo on and are below n
unfoldable pub blocks_rise : List ℕ → ℕ → ℕ → ℕ → ℕ → ℕ → Bool
blocks_rise j n at lo i k =
    let bs = map (block_at j at) (interval i k) in
    rising lo bs && every (λ b. ltb b n) bs

-- what a scan gives: whether all is right, and then the offset of the last record, otherwise 0
pub record Scans (j : List ℕ) (right ok : Bool) (last : ℕ) : Type 0 where
  pub well : ok ≡ right
  pub found : last ≡ cond ok (last_record j) 0

-- where the last record begins, of a journal that may have none
pub record Finds (j : List ℕ) (last : Option ℕ) : Type 0 where
  pub found : unwrap_or last 0 ≡ last_record j
  pub some : IfSome last (λ at. at ≢ 0)
