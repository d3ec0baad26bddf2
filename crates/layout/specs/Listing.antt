-- The listing (FORMAT.md, 13: "The lister reads up to 65,536 bytes from standard input (more gives 1) and writes one line, `refused`, a space and the number,
-- or the list").
use Rattle.std.specs.Prelude.{ℕ, zero, suc, ◌+◌, ◌/◌, ◌%◌, List, [], ◌∷◌, ◌++◌, map, cond, length, leb, ltb}
use Rattle.layout.specs.Lists.{within, joined}
use Rattle.layout.specs.Refusals.{require, accept}
use Rattle.layout.specs.Bytes.{be32}
use Rattle.layout.specs.Limits.{max_listed}
use Rattle.layout.specs.Geometry.{block_count}
use Rattle.layout.specs.Directory.{slot_at, size_of, blocks_of, name_of, files, root}
use Rattle.layout.specs.Check.{check}

-- a number in decimal: at most `fuel` digits, and the ten that every 32-bit number fits into
abbrev pub digits : ℕ → ℕ → List ℕ
digits zero x = []
digits (suc fuel) x = let more = digits fuel (x / 10) ++ ((48 + x % 10) ∷ []) in cond (ltb x 10) ((48 + x) ∷ []) more

unfoldable pub decimal : ℕ → List ℕ
decimal x = digits 10 x

-- "Name bytes outside 0x21 to 0x7E are written as `?`."
unfoldable pub printed : List ℕ → List ℕ
printed name = map (λ x. cond (within 0x21 0x7E x) x 63) name

-- "Slot, size, blocks, name", with a space (32) between and a line feed (10) after: of the entry at e, as slot k; of slot k of the root
unfoldable pub entry_line : List ℕ → ℕ → ℕ → List ℕ
entry_line s e k =
    decimal k ++ (32 ∷ (decimal (size_of s e) ++ (32 ∷ (decimal (blocks_of s e) ++ (32 ∷ (printed (name_of s e) ++ (10 ∷ [])))))))

unfoldable pub file_line : List ℕ → ℕ → List ℕ
file_line s k = entry_line s (slot_at (root s) k) k

-- "blocks 16 used 6 free 10"
unfoldable pub count_line : List ℕ → List ℕ
count_line s =
    (98 ∷ 108 ∷ 111 ∷ 99 ∷ 107 ∷ 115 ∷ 32 ∷ []) ++ (decimal (block_count s) ++ ((32 ∷ 117 ∷ 115 ∷ 101 ∷ 100 ∷ 32 ∷ [])
    ++ (decimal (be32 s 20) ++ ((32 ∷ 102 ∷ 114 ∷ 101 ∷ 101 ∷ 32 ∷ []) ++ (decimal (be32 s 24) ++ (10 ∷ []))))))

-- "refused 5"
unfoldable pub refused_line : ℕ → List ℕ
refused_line number = (114 ∷ 101 ∷ 102 ∷ 117 ∷ 115 ∷ 101 ∷ 100 ∷ 32 ∷ []) ++ (decimal number ++ (10 ∷ []))

-- "slots ascend"
unfoldable pub listing : List ℕ → List ℕ
listing s =
    let number = require (leb (length s) max_listed) 1 (check s) in
    let lines = count_line s ++ joined (file_line s) (files s (root s)) in
    accept number lines (refused_line number)
