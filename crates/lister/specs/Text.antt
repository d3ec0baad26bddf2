-- Code-facing definitions of the lister, that private contracts cite. The listing itself is Rattle.layout.specs.Listing.
use Rattle.std.specs.Prelude.{ℕ, ◌+◌, ◌*◌, ◌≡◌, List, [], cond, length}
use Rattle.layout.specs.Lists.{interval, select, joined}
use Rattle.layout.specs.Bytes.{splice}
use Rattle.layout.specs.Directory.{slot_at, type_of, is_file, root}
use Rattle.layout.specs.Listing.{entry_line, file_line}

-- what writing bytes at an offset leaves: the buffer, and the offset after them
pub record TextPut (before : List ℕ) (at : ℕ) (bytes after : List ℕ) (stop : ℕ) : Type 0 where
  pub buffer : after ≡ splice before at bytes
  pub offset : stop ≡ at + length bytes

-- the longest listing: a line of counts, and a line for each of 254 slots, each number of at most ten digits and each name of at most 80 bytes
abbrev pub max_listing : ℕ
max_listing = 50 + 114 * 254

-- what is written for a slot whose entry is at e, nothing if it is no file; and for the slots k to k + j − 1 of the root
unfoldable pub slot_line : List ℕ → ℕ → ℕ → List ℕ
slot_line s e k = cond (is_file (type_of s e)) (entry_line s e k) []

unfoldable pub slot_lines : List ℕ → ℕ → ℕ → List ℕ
slot_lines s k j = joined (file_line s) (select (λ x. is_file (type_of s (slot_at (root s) x))) (interval k j))
