-- Get (FORMAT.md, 14): "get gives the latest or a named revision into a buffer of 200 bytes or more, and leaves the rest". On any image.
use Rattle.std.specs.Prelude.{ℕ, List, [], ◌∷◌, Bool, true, false, cond, length, eqb, leb}
use Rattle.layout.specs.Refusals.{require, first_of, accept}
use Rattle.layout.specs.Bytes.{splice}
use Rattle.layout.specs.Check.{check}
use Rattle.store.specs.Settings.{max_setting, Revision, Found, broken, held, latest}
use Rattle.store.specs.Put.{root, address_refusal, is_there, stored, held_in}

pub data Which : Type 0 where
  the_latest : Which
  the_number : ℕ → Which

abbrev pub wanted : List Revision → Which → ℕ
wanted rs the_latest = latest rs
wanted rs (the_number x) = x

-- whether a number stands; and its data
abbrev pub stands : ℕ → List Revision → Bool
stands x [] = false
stands x (r ∷ rs) = cond (eqb r.number x) true (stands x rs)

abbrev pub data_of : ℕ → List Revision → List ℕ
data_of x [] = []
data_of x (r ∷ rs) = cond (eqb r.number x) r.bytes (data_of x rs)

-- "get the number and data length"
pub record GetAnswer : Type 0 where
  pub number : ℕ
  pub revision : ℕ
  pub size : ℕ
  pub buffer : List ℕ

-- the answer, by the numbers that the code gives and the buffer
abbrev pub got_answer : ℕ → ℕ → ℕ → List ℕ → GetAnswer
got_answer number revision size buffer = record { number = number; revision = revision; size = size; buffer = buffer }

-- "first 24 a file not of this form, then 23 no such revision"
abbrev pub sought_refusal : Found → Which → ℕ
sought_refusal broken which = 24
sought_refusal (held rs) which = require (stands (wanted rs which) rs) 23 0

-- 1 to 7; 22 "bad serial .. or get buffer below 200", in the place of 9, and 17; 10 "where no directory is there", and "where the root holds no file of that
-- name", or the directory; so before 24 and 23, which come after 12
unfoldable pub get_refusal : List ℕ → List ℕ → List ℕ → Which → ℕ → ℕ
get_refusal s directory serial which size =
    first_of (check s)
    (first_of (address_refusal directory serial (leb max_setting size))
    (require (is_there s directory serial) 10
    (sought_refusal (stored s directory serial) which)))

unfoldable pub get_in : List ℕ → List ℕ → List ℕ → Which → List ℕ → GetAnswer
get_in s directory serial which buffer =
    let number = get_refusal s directory serial which (length buffer) in
    let rs = held_in (stored s directory serial) in
    let x = wanted rs which in
    let found : GetAnswer = record { number = 0; revision = x; size = length (data_of x rs); buffer = splice buffer 0 (data_of x rs) } in
    accept number found (record { number = number; revision = 0; size = 0; buffer = buffer })

-- L10: in the root
abbrev pub get : List ℕ → List ℕ → Which → List ℕ → GetAnswer
get s serial which buffer = get_in s root serial which buffer
