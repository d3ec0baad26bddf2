-- A VOLUME FILE (VOLUME-FILE.md, 2): an image, its journal and some sectors of the program's own, with a log by which all three are saved whole or not at
-- all. It is sectors of 512 bytes:
-- sector 0, the header: "BulgeVol", the version 00 01 00 00, n, m and x, zeros;
-- sector 1, the commit sector: if its first byte is 1 the log waits to be written home; with any other byte nothing waits, whatever else the sector holds;
-- the home: n sectors of the image, then m of the journal, then x of the program's own, h = n + m + x in all; home sector i is sector 2 + i;
-- the log: numbers of four bytes, first k and then k addresses, each the number of a home sector; and after room for h + 1 such numbers the k sectors that
-- are to stand there.
use Rattle.std.specs.Prelude.{ℕ, zero, suc, ◌+◌, ◌*◌, ◌/◌, List, [], ◌∷◌, Bool, true, ◌&&◌, cond, length, get_or, take, eqb, leb, ltb}
use Rattle.layout.specs.Lists.{within, same}
use Rattle.layout.specs.Limits.{min_blocks, max_blocks}
use Rattle.layout.specs.Refusals.{require, first_of}
use Rattle.layout.specs.Bytes.{be32, part, block}
use Rattle.layout.specs.Walks.Entries.{all_zero}
use Rattle.volume_file.specs.Refusals.{too_short, bad_header, bad_length, bad_count, bad_address}

-- the header's first twelve bytes: "BulgeVol" and the version 00 01 00 00
abbrev pub file_signature : List ℕ
file_signature = 66 ∷ 117 ∷ 108 ∷ 103 ∷ 101 ∷ 86 ∷ 111 ∷ 108 ∷ 0 ∷ 1 ∷ 0 ∷ 0 ∷ []

-- n, m and x, of a header sector
abbrev pub image_sectors_of : List ℕ → ℕ
image_sectors_of head = be32 head 12

abbrev pub journal_sectors_of : List ℕ → ℕ
journal_sectors_of head = be32 head 16

abbrev pub own_sectors_of : List ℕ → ℕ
own_sectors_of head = be32 head 20

-- their ranges: 3 to 65,536 for an image, 1 to 131,072 for a journal (67,108,864 bytes, the longest there is), 0 to 128 for the program
abbrev pub max_journal_sectors : ℕ
max_journal_sectors = 131072

abbrev pub max_own_sectors : ℕ
max_own_sectors = 128

abbrev pub sizes_ok : ℕ → ℕ → ℕ → Bool
sizes_ok n m x = within min_blocks max_blocks n && (within 1 max_journal_sectors m && leb x max_own_sectors)

unfoldable pub header_ok : List ℕ → Bool
header_ok head =
    same (take 12 head) file_signature && (sizes_ok (image_sectors_of head) (journal_sectors_of head) (own_sectors_of head) && all_zero (part head 24 488))

-- h, of a file
unfoldable pub home_sectors : List ℕ → ℕ
home_sectors d = image_sectors_of (block d 0) + journal_sectors_of (block d 0) + own_sectors_of (block d 0)

-- Where things stand, with h home sectors: home sector i; the sectors that k + 1 numbers take; the log's k and its j-th address, as offsets; its j-th sector;
-- and how many sectors there are in all.
abbrev pub home_at : ℕ → ℕ
home_at i = 2 + i

abbrev pub number_sectors : ℕ → ℕ
number_sectors k = (k + 128) / 128

abbrev pub count_at : ℕ → ℕ
count_at h = 512 * (2 + h)

abbrev pub address_at : ℕ → ℕ → ℕ
address_at h j = 512 * (2 + h) + 4 + 4 * j

abbrev pub saved_at : ℕ → ℕ → ℕ
saved_at h j = 2 + h + number_sectors h + j

abbrev pub file_sectors : ℕ → ℕ
file_sectors h = 2 + h + number_sectors h + h

-- how long a file of n, m and x is, in bytes; 0 if one of them is out of its range
unfoldable pub file_size : ℕ → ℕ → ℕ → ℕ
file_size n m x = cond (sizes_ok n m x) (512 * file_sectors (n + m + x)) 0

-- THE HOME, and its three parts: the journal stands in m whole sectors, so its length is 512·m
unfoldable pub home_of : List ℕ → List ℕ
home_of d = part d 1024 (512 * home_sectors d)

unfoldable pub image_of : List ℕ → List ℕ
image_of d = part d 1024 (512 * image_sectors_of (block d 0))

unfoldable pub journal_of : List ℕ → List ℕ
journal_of d = part d (1024 + 512 * image_sectors_of (block d 0)) (512 * journal_sectors_of (block d 0))

unfoldable pub own_of : List ℕ → List ℕ
own_of d = part d (1024 + 512 * image_sectors_of (block d 0) + 512 * journal_sectors_of (block d 0)) (512 * own_sectors_of (block d 0))

-- whether the log waits; the k that it says, and how many of its sectors wait; its j-th address
unfoldable pub waits : List ℕ → Bool
waits d = eqb (get_or d 512 0) 1

unfoldable pub log_count : List ℕ → ℕ
log_count d = be32 d (count_at (home_sectors d))

unfoldable pub count : List ℕ → ℕ
count d = cond (waits d) (log_count d) 0

unfoldable pub address : ℕ → List ℕ → ℕ → ℕ
address h d j = be32 d (address_at h j)

-- the first k addresses rise and are below `limit`: told from the last to the first
unfoldable pub rising : ℕ → List ℕ → ℕ → ℕ → Bool
rising h d limit zero = true
rising h d limit (suc j) = ltb (address h d j) limit && rising h d (address h d j) j

-- Refusals 1 to 3, of header and length; 4 and 5, of a log of k sectors; and of a file, whose log is looked at only if it waits.
unfoldable pub head_refusal : List ℕ → ℕ
head_refusal d =
    require (leb 1024 (length d)) too_short
    (require (header_ok (block d 0)) bad_header
    (require (eqb (length d) (512 * file_sectors (home_sectors d))) bad_length 0))

unfoldable pub log_refusal : List ℕ → ℕ → ℕ
log_refusal d k =
    let h = home_sectors d in
    require (leb k h) bad_count (require (rising h d h k) bad_address 0)

unfoldable pub file_refusal : List ℕ → ℕ
file_refusal d = first_of (head_refusal d) (log_refusal d (count d))
