-- The form of a file of the store (FORMAT.md, 14: "version byte 1, a 4-byte length (of these five bytes and the records), 1 to 16 settings records, then
-- zeros, if any, to the file's end. A record is data length (1 byte, at most 200), revision number (4), data. Numbers are 1 or more and rise by 1").
use Rattle.std.specs.Prelude.{ℕ, zero, suc, ◌+◌, ◌-◌, List, [], ◌∷◌, ◌++◌, Bool, true, false, ◌&&◌, cond, length, get_or, drop, eqb, leb}
use Rattle.layout.specs.Lists.{within, every, joined}
use Rattle.layout.specs.Bytes.{be32, bytes4, zeros, part}

-- the limits: bytes of a setting, revisions of a file, the last number
abbrev pub max_setting : ℕ
max_setting = 200

abbrev pub max_revisions : ℕ
max_revisions = 16

abbrev pub max_number : ℕ
max_number = 0xFFFFFFFF

pub record Revision : Type 0 where
  pub number : ℕ
  pub bytes : List ℕ

-- Written: a record; the five bytes and the records; all of a file, with zeros up to a size.
unfoldable pub record_bytes : Revision → List ℕ
record_bytes r = length r.bytes ∷ (bytes4 r.number ++ r.bytes)

unfoldable pub whole_file : List Revision → List ℕ
whole_file rs = let body = joined record_bytes rs in 1 ∷ (bytes4 (5 + length body) ++ body)

unfoldable pub encoded : List Revision → ℕ → List ℕ
encoded rs size = whole_file rs ++ zeros (size - length (whole_file rs))

-- Read: the revisions that a file holds, oldest first, if it is of this form.
pub data Found : Type 0 where
  broken : Found
  held : List Revision → Found

abbrev pub before : Revision → Found → Found
before r broken = broken
before r (held rs) = held (r ∷ rs)

-- the records that fill some bytes exactly, at most `fuel`
unfoldable pub records_in : ℕ → List ℕ → Found
records_in zero xs = cond (eqb (length xs) 0) (held []) broken
records_in (suc fuel) xs =
    let size = get_or xs 0 0 in
    let first : Revision = record { number = be32 xs 1; bytes = part xs 5 size } in
    let more = before first (records_in fuel (drop (5 + size) xs)) in
    let some = cond (leb size max_setting && leb (5 + size) (length xs)) more broken in
    cond (eqb (length xs) 0) (held []) some

-- there is a record, its number is 1 or more, and each further number is one more than that before it
abbrev pub follow : ℕ → List Revision → Bool
follow last [] = true
follow last (r ∷ rs) = eqb r.number (suc last) && follow r.number rs

abbrev pub numbers_ok : List Revision → Bool
numbers_ok [] = false
numbers_ok (r ∷ rs) = leb 1 r.number && follow r.number rs

abbrev pub numbered : Found → Found
numbered broken = broken
numbered (held rs) = cond (numbers_ok rs) (held rs) broken

unfoldable pub revisions : List ℕ → Found
revisions c =
    let size = be32 c 1 in
    let found = numbered (records_in max_revisions (part c 5 (size - 5))) in
    cond (eqb (get_or c 0 0) 1 && (within 5 (length c) size && every (λ x. eqb x 0) (drop size c))) found broken

-- the number of the latest, 0 if there is none
abbrev pub latest_after : ℕ → List Revision → ℕ
latest_after last [] = last
latest_after last (r ∷ rs) = latest_after r.number rs

unfoldable pub latest : List Revision → ℕ
latest rs = latest_after 0 rs

-- "Put adds a revision and drops the oldest when 16 stand": of at most 16, the last 15 stay.
unfoldable pub added : List Revision → List ℕ → List Revision
added rs bytes = drop (length rs - 15) rs ++ (record { number = suc (latest rs); bytes = bytes } ∷ [])
