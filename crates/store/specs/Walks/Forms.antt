-- A file of the store as the code has it: its first bytes in a room, and numbers.
use Rattle.std.specs.Prelude.{ℕ, suc, ◌+◌, ◌-◌, ◌≤◌, Bool, true, false, ◌&&◌, cond, List, ◌≡◌, length, get_or, take, eqb, leb, ltb}
use Rattle.layout.specs.Lists.{within, joined}
use Rattle.layout.specs.Bytes.{be32, part, block, splice}
use Rattle.layout.specs.Refusals.{accept}
use Rattle.layout.specs.Table.{next, chain}
use Rattle.store.specs.Settings.{max_setting, max_revisions, Revision, record_bytes, Found, broken, held, records_in, numbered, latest}
use Rattle.store.specs.Put.{held_in}
use Rattle.store.specs.Get.{Which, the_latest, the_number, wanted, stands, data_of, GetAnswer, sought_refusal}

-- the most that five bytes and 16 records of 205 bytes fill
abbrev pub max_form : ℕ
max_form = 3285

-- the bytes of a file, by its entry's numbers
unfoldable pub bytes_of : List ℕ → ℕ → ℕ → ℕ → List ℕ
bytes_of s first size blocks = take size (joined (block s) (chain (next s) first blocks))

-- the length of the record at an offset of some records, or 0 if none stands there
unfoldable pub length_at : List ℕ → ℕ → ℕ
length_at xs at = let size = get_or xs at 0 in cond (leb size max_setting && leb (at + 5 + size) (length xs)) (5 + size) 0

-- a number may follow the last one, 0 if there is none
unfoldable pub follows_on : ℕ → ℕ → Bool
follows_on last number = cond (eqb last 0) (leb 1 number) (eqb number (suc last))

-- the revisions whose records fill some bytes, none where something else does; the same of a room, from its byte 5 up to `used`
unfoldable pub held_by : List ℕ → List Revision
held_by xs = held_in (records_in max_revisions xs)

abbrev pub in_room : List ℕ → ℕ → List Revision
in_room room used = held_by (part room 5 (used - 5))

-- what is found in some records, by numbers
pub record Counted (xs : List ℕ) (ok : Bool) (used count last oldest : ℕ) : Type 0 where
  pub used-is : ok ≡ true → used ≡ 5 + length xs
  pub read : ok ≡ true → records_in max_revisions xs ≡ held (held_by xs)
  pub right : ok ≡ true → numbered (records_in max_revisions xs) ≡ held (held_by xs)
  pub many : ok ≡ true → count ≡ length (held_by xs)
  pub latest-is : ok ≡ true → last ≡ latest (held_by xs)
  pub oldest-is : ok ≡ true → oldest ≡ length (joined record_bytes (take 1 (held_by xs)))
  pub wrong : ok ≡ false → numbered (records_in max_revisions xs) ≡ broken

-- the form of a file of `size` bytes, of which a room has the first, but for the zeros behind the records
unfoldable pub form_in : List ℕ → ℕ → Found
form_in room size =
    let used = be32 room 1 in
    let found = numbered (records_in max_revisions (part room 5 (used - 5))) in
    cond (eqb (get_or room 0 0) 1 && (within 5 size used && leb used max_form)) found broken

-- the records that end at `used`, by numbers: how many, the number of the latest, 0 if there is none, and the length of the oldest record
pub record Summary (room : List ℕ) (used count last oldest : ℕ) : Type 0 where
  pub low : 5 ≤ used
  pub high : used ≤ max_form
  pub read : records_in max_revisions (part room 5 (used - 5)) ≡ held (in_room room used)
  pub many : count ≡ length (in_room room used)
  pub latest-is : last ≡ latest (in_room room used)
  pub oldest-is : oldest ≡ length (joined record_bytes (take 1 (in_room room used)))

-- what is found in a file, by numbers and the room
pub record Parsed (found : Found) (room : List ℕ) (ok : Bool) (used count last oldest : ℕ) : Type 0 where
  pub right : ok ≡ true → (found ≡ held (in_room room used)) × (Summary room used count last oldest)
  pub wrong : ok ≡ false → found ≡ broken

-- the length of what a further revision drops, the oldest record where 16 stand; the used length with a revision of `size` bytes more
abbrev pub dropped_by : ℕ → ℕ → ℕ
dropped_by count oldest = cond (ltb count max_revisions) 0 oldest

unfoldable pub length_after : ℕ → ℕ → ℕ → ℕ → ℕ
length_after used count oldest size = used - dropped_by count oldest + 5 + size

abbrev pub revision : ℕ → List ℕ → Revision
revision number bytes = record { number = number; bytes = bytes }

-- where a revision's data stands in a room
pub record Placed (rs : List Revision) (room : List ℕ) (x : ℕ) (found : Bool) (at size : ℕ) : Type 0 where
  pub there : found ≡ stands x rs
  pub size_is : found ≡ true → size ≡ length (data_of x rs)
  pub bytes-are : found ≡ true → part room at size ≡ data_of x rs
  pub inside : at + size ≤ length room
  pub short : size ≤ max_setting

-- the revision asked for, by the two calls' arguments
abbrev pub which : Bool → ℕ → Which
which true revision = the_latest
which false revision = the_number revision

-- what get answers of a file that is there
unfoldable pub sought : Found → Which → List ℕ → GetAnswer
sought found w buffer =
    let number = sought_refusal found w in
    let rs = held_in found in
    let x = wanted rs w in
    let given : GetAnswer = record { number = 0; revision = x; size = length (data_of x rs); buffer = splice buffer 0 (data_of x rs) } in
    accept number given (record { number = number; revision = 0; size = 0; buffer = buffer })
