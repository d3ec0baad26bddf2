-- The refusals that come first in every call that is lent a journal, and what recording a change gives.
use Rattle.std.specs.Prelude.{Err, Ok, Result, ℕ, ◌+◌, ◌≡◌, ◌≢◌, Option, unwrap_or, IfSome, List, true, length, leb}
use Rattle.layout.specs.declared.refusal.Refusal.{Refusal}
use Rattle.layout.specs.Reasons.{number_of}
use Rattle.layout.specs.Refusals.{require, first_of, accept}
use Rattle.layout.specs.Geometry.{block_count}
use Rattle.layout.specs.Check.{check}
use Rattle.journal.specs.Run.{State}
use Rattle.journal.specs.Journal.{used, well_formed, record_bytes, added, last_record}
use Rattle.journal.specs.Walks.Saves.{marked_from}

-- the refusals 1 to 8; what holds where they are passed; and what inspecting gives: their number, and
-- if it is 0, where the last record begins, otherwise 0
unfoldable pub ready_refusal : State → ℕ
ready_refusal p = first_of (check p.image) (require (well_formed p.journal (block_count p.image)) 8 0)

pub record Ready (s j : List ℕ) : Type 0 where
  pub sound : check s ≡ 0
  pub well-formed : well_formed j (block_count s) ≡ true

pub record Inspects (p : State) (number last : ℕ) : Type 0 where
  pub number_is : number ≡ ready_refusal p
  pub found : last ≡ accept number (last_record p.journal) 0

-- the same of an answer: the last record, if there is one, or the reason of the refusal
abbrev pub Inspected : State → Result (Option ℕ) Refusal → Type 0
Inspected p (Ok last) = Inspects p 0 (unwrap_or last 0) × IfSome last (λ at. at ≢ 0)
Inspected p (Err why) = number_of why ≡ ready_refusal p

-- the record of the blocks that are marked
abbrev pub record_marked : List ℕ → List ℕ → List ℕ
record_marked s marks = record_bytes s (marked_from marks 0 (block_count s))

-- What recording gives: the length of the record and the journal with it; or 0 and the journal as it was, if there is no room (15).
unfoldable pub room_refusal : List ℕ → List ℕ → ℕ
room_refusal j r = require (leb (used j + length r) (length j)) 15 0

pub record Recorded (j r : List ℕ) (size : ℕ) (new : List ℕ) : Type 0 where
  pub length-given : size ≡ accept (room_refusal j r) (length r) 0
  pub journal-after : new ≡ accept (room_refusal j r) (added j r) j

-- the same where the length is there only if there was room
pub record Records (j r : List ℕ) (size : Option ℕ) (new : List ℕ) : Type 0 where
  pub recorded : Recorded j r (unwrap_or size 0) new
  pub some : IfSome size (λ k. k ≢ 0)
