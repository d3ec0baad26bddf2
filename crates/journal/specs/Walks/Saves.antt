-- Saving the marked blocks of an image.
use Rattle.std.specs.Prelude.{ℕ, ◌*◌, ◌≤◌, List, not, length, get_or, eqb}
use Rattle.layout.specs.Lists.{interval, select}
use Rattle.layout.specs.Limits.{max_blocks}

-- the marked ones of the k blocks from a on
unfoldable pub marked_from : List ℕ → ℕ → ℕ → List ℕ
marked_from m a k = select (λ b. not (eqb (get_or m b 0) 0)) (interval a k)

-- an image of n blocks or more, with a mark for each of them
pub record Marks (s m : List ℕ) (n : ℕ) : Type 0 where
  pub whole : 512 * n ≤ length s
  pub blocks : n ≤ max_blocks
  pub marks : n ≤ length m
