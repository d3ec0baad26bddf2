-- Undo to a mark: the latest change is taken back again and again until the used length is the mark, in one call, with one check of the image.
use Rattle.std.specs.Prelude.{ℕ, zero, suc, ◌≡◌, eqb}
use Rattle.layout.specs.Lists.{has}
use Rattle.layout.specs.Refusals.{require, first_of, accept}
use Rattle.layout.specs.Geometry.{block_count}
use Rattle.layout.specs.Check.{check}
use Rattle.journal.specs.Journal.{well_formed, undone_image, undone_journal}
use Rattle.journal.specs.Run.{State, state, undo_refusal, after_undo}
use Rattle.back.specs.Marks.{marks, behind}

-- The rule of undo without its check: "puts the last record's bytes back, zeroes that record, lowers the used length"; and this k times. A foreign journal may
-- leave an image on the way that is not sound, where a single undo would be refused; in a run none does (`back-run`).
unfoldable pub without_last : State → State
without_last p = state (undone_image p.image p.journal) (undone_journal p.journal)

unfoldable pub back_by : State → ℕ → State
back_by p zero = p
back_by p (suc k) = back_by (without_last p) k

-- what the call leaves and answers: image and journal, the number, and how many changes were taken back
pub record Backed : Type 0 where
  pub state : State
  pub number : ℕ
  pub done : ℕ

abbrev pub backed : State → ℕ → ℕ → Backed
backed p number done = record { state = p; number = number; done = done }

-- 1 to 8; 27: the mark is no used length that the journal had after 0 or more of its records
unfoldable pub back_refusal : State → ℕ → ℕ
back_refusal p mark =
    first_of (check p.image)
    (require (well_formed p.journal (block_count p.image)) 8
    (require (has eqb mark (marks p.journal)) 27 0))

unfoldable pub undo_to : State → ℕ → Backed
undo_to p mark =
    let k = behind p.journal mark in
    accept (back_refusal p mark) (backed (back_by p k) 0 k) (backed p (back_refusal p mark) 0)

-- k single undos, each accepted on what the one before left
unfoldable pub Undoable : State → ℕ → Type 0
Undoable p zero = Unit {0}
Undoable p (suc k) = (undo_refusal p ≡ 0) × Undoable (after_undo p) k
