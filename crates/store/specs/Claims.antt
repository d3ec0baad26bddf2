-- The words of the theorems about the form of a file (FORMAT.md, 14): what a reader must believe to read them.
use Rattle.std.specs.Prelude.{ℕ, ◌≤◌, ◌<◌, ◌≡◌, true, List, length, get_or, leb}
use Rattle.layout.specs.Lists.{every}
use Rattle.store.specs.Settings.{max_setting, max_revisions, max_number, Revision, numbers_ok}

-- revisions that a file may hold, but for the size of their numbers: "1 to 16 settings records", "data length (1 byte, at most 200)", "Numbers are 1 or more
-- and rise by 1"
pub record Fits (rs : List Revision) : Type 0 where
  pub few : length rs ≤ max_revisions
  pub short : every (λ r. leb (length r.bytes) max_setting) rs ≡ true
  pub numbers : numbers_ok rs ≡ true

-- "revision number (4)": each number fits four bytes
abbrev pub Small : List Revision → Type 0
Small rs = every (λ r. leb r.number max_number) rs ≡ true

-- bytes, as an image of the code has them
abbrev pub Bytes : List ℕ → Type 0
Bytes c = (i : ℕ) → get_or c i 0 < 256
