-- A NEW VOLUME FILE: the header is written, and a commit sector with which nothing waits. The home is what stands there already.
use Rattle.std.specs.Prelude.{ℕ, ◌+◌, ◌*◌, List, ◌++◌, eqb, length}
use Rattle.layout.specs.Refusals.{require, accept}
use Rattle.layout.specs.Bytes.{bytes4, zeros, splice}
use Rattle.volume_file.specs.Refusals.{bad_header, bad_length}
use Rattle.volume_file.specs.Format.{file_signature, sizes_ok, file_sectors}
use Rattle.volume_file.specs.Save.{flagged}

unfoldable pub header_sector : ℕ → ℕ → ℕ → List ℕ
header_sector n m x = file_signature ++ (bytes4 n ++ (bytes4 m ++ (bytes4 x ++ zeros 488)))

unfoldable pub begun : List ℕ → ℕ → ℕ → ℕ → List ℕ
begun d n m x = flagged (splice d 0 (header_sector n m x)) 0

-- 2: n, m or x is out of its range. 3: the length is not that of n, m and x.
unfoldable pub begin_refusal : List ℕ → ℕ → ℕ → ℕ → ℕ
begin_refusal d n m x = require (sizes_ok n m x) bad_header (require (eqb (length d) (512 * file_sectors (n + m + x))) bad_length 0)

unfoldable pub after_begin : List ℕ → ℕ → ℕ → ℕ → List ℕ
after_begin d n m x = accept (begin_refusal d n m x) (begun d n m x) d
