-- Code-facing: what a set asks of its path and data alone, and what filling blocks asks.
use Rattle.std.specs.Prelude.{ℕ, ◌*◌, ◌/◌, ◌%◌, ◌≤◌, ◌≡◌, ◌&&◌, List, eqb, leb}
use Rattle.layout.specs.Limits.{max_attributes}
use Rattle.layout.specs.Refusals.{require}
use Rattle.layout.specs.Paths.{path_ok}
use Rattle.volume.specs.Walks.Searches.{Growable}

-- 9 and 20, which come before 17
unfoldable pub set_form_refusal : List ℕ → ℕ → ℕ
set_form_refusal path count =
    require (path_ok path && (leb 1 count && eqb (count % 512) 0)) 9 (require (leb count (512 * max_attributes)) 20 0)

-- `count` bytes are whole blocks, one at least, and so many blocks can be taken
pub record Fillable (s : List ℕ) (n count : ℕ) : Type 0 where
  pub some : 1 ≤ count
  pub whole : count % 512 ≡ 0
  pub room : Growable s n 0 (count / 512)
