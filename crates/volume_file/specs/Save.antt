-- A SAVE in four steps, each a change of the file, and RECOVERY, which is the last two of them.
use Rattle.std.specs.Prelude.{ℕ, zero, suc, ◌*◌, List, ◌∷◌, ◌++◌, Bool, not, cond, eqb, length}
use Rattle.layout.specs.Lists.{same, interval, select, joined}
use Rattle.layout.specs.Refusals.{require, first_of, accept}
use Rattle.layout.specs.Bytes.{bytes4, zeros, block, splice}
use Rattle.volume_file.specs.Refusals.{log_waits, image_length_of, journal_length_of, own_length_of}
use Rattle.volume_file.specs.Format.{image_sectors_of, journal_sectors_of, own_sectors_of, head_refusal, log_refusal, file_refusal, home_sectors, home_at, count_at, address_at, saved_at, waits, log_count, count, address}

-- what is to stand in the home: image, journal and the program's own bytes, one after the other
abbrev pub home_with : (image journal own : List ℕ) → List ℕ
home_with image journal own = image ++ (journal ++ own)

-- the commit sector with b as its first byte
unfoldable pub flagged : List ℕ → ℕ → List ℕ
flagged d b = splice d 512 (b ∷ zeros 511)

-- STEP 1 writes the log: of the home sectors in which the file and the new home differ the numbers and the new bytes; and how many these are
unfoldable pub differs : List ℕ → List ℕ → ℕ → Bool
differs d new i = not (same (block d (home_at i)) (block new i))

unfoldable pub changes : List ℕ → List ℕ → List ℕ
changes d new = select (differs d new) (interval 0 (home_sectors d))

unfoldable pub filled : List ℕ → List ℕ → List ℕ
filled d new =
    let h = home_sectors d in
    let xs = changes d new in
    splice (splice d (address_at h 0) (joined bytes4 xs)) (512 * saved_at h 0) (joined (block new) xs)

unfoldable pub prepared : List ℕ → List ℕ → List ℕ
prepared d new = splice (filled d new) (count_at (home_sectors d)) (bytes4 (length (changes d new)))

-- It is refused with the file's own refusal, 1 to 5; 6: the log waits; 7, 8, 9: image, journal or the program's own bytes are not as long as their places.
unfoldable pub lengths_refusal : (head image journal own : List ℕ) → ℕ
lengths_refusal head image journal own =
    require (eqb (length image) (512 * image_sectors_of head)) image_length_of
    (require (eqb (length journal) (512 * journal_sectors_of head)) journal_length_of
    (require (eqb (length own) (512 * own_sectors_of head)) own_length_of 0))

unfoldable pub prepare_refusal : (d image journal own : List ℕ) → ℕ
prepare_refusal d image journal own = first_of (file_refusal d) (require (not (waits d)) log_waits (lengths_refusal (block d 0) image journal own))

unfoldable pub after_prepare : (d image journal own : List ℕ) → List ℕ
after_prepare d image journal own = accept (prepare_refusal d image journal own) (prepared d (home_with image journal own)) d

-- STEP 2 writes the commit sector: from now on the log waits
unfoldable pub committed : List ℕ → List ℕ → List ℕ
committed d new = flagged (prepared d new) 1

-- It is refused where there is no file, 1 to 3, or no log, 4 and 5; 6: the log waits already.
unfoldable pub commit_refusal : List ℕ → ℕ
commit_refusal d = first_of (head_refusal d) (first_of (log_refusal d (log_count d)) (require (not (waits d)) log_waits 0))

unfoldable pub after_commit : List ℕ → List ℕ
after_commit d = accept (commit_refusal d) (flagged d 1) d

-- STEP 3 writes each sector of the log to its home; here the first j of them
unfoldable pub restored : ℕ → List ℕ → ℕ → List ℕ
restored h d zero = d
restored h d (suc j) = splice (restored h d j) (512 * home_at (address h d j)) (block d (saved_at h j))

unfoldable pub replayed : List ℕ → List ℕ
replayed d = restored (home_sectors d) d (count d)

-- STEP 4 writes the commit sector: nothing waits. RECOVERY is steps 3 and 4 where the log waits, and else nothing.
unfoldable pub recovered : List ℕ → List ℕ
recovered d = cond (waits d) (flagged (replayed d) 0) d

unfoldable pub after_recover : List ℕ → List ℕ
after_recover d = accept (file_refusal d) (recovered d) d
