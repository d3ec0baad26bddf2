-- Runs in which journals are asked and marks are gone back to (FORMAT.md, 11): an info is a look; an undo to a mark is, in a run, the undos that it does. And the
-- claims: back to the start, and back to any moment of a run whose changes all still stand.
use Rattle.std.specs.Prelude.{ℕ, ◌-◌, ◌≤◌, List, [], ◌∷◌, ◌++◌, ◌≡◌, length}
use Rattle.layout.specs.Limits.{min_journal, max_journal}
use Rattle.layout.specs.Check.{check}
use Rattle.store.specs.Change.{Change}
use Rattle.journal.specs.Journal.{started}
use Rattle.journal.specs.Run.{State, Call}
use Rattle.journal.specs.Replay.{standing_after, standing}
use Rattle.journal.specs.Kinds.{Kind, KindCall, run_of, AllFit, as_calls, standing_of, FreeRunTheorem}
use Rattle.journal.specs.Back.{undos, Tell}
use Rattle.back.specs.Marks.{InfoAnswer, journal_info}
use Rattle.back.specs.UndoTo.{backed, undo_to}

-- infos; none ends a run
abbrev pub infos : Kind
infos = record {
  Further = Unit {0};
  Reply = InfoAnswer;
  after = λ p c. p;
  reply = λ p c. journal_info p;
  calls = λ p c. [];
  Fits = λ p c. Unit {0};
}

-- what an undo to a mark answers
pub record Returned : Type 0 where
  pub number : ℕ
  pub done : ℕ

-- undos to marks; none ends a run
abbrev pub backs : Kind
backs = record {
  Further = ℕ;
  Reply = Returned;
  after = λ p mark. (undo_to p mark).state;
  reply = λ p mark. record { number = (undo_to p mark).number; done = (undo_to p mark).done };
  calls = λ p mark. undos (undo_to p mark).done;
  Fits = λ p mark. Unit {0};
}

-- how a program counts the changes that stand: an info leaves the count, an undo to a mark lowers it by as many as it says
abbrev pub info_tell : Tell infos
info_tell k r = k

abbrev pub back_tell : Tell backs
back_tell k r = k - r.done

abbrev pub InfoRunTheorem : Type 0
InfoRunTheorem = FreeRunTheorem infos

abbrev pub BackRunTheorem : Type 0
BackRunTheorem = FreeRunTheorem backs

-- WHAT AN INFO TELLS: after every run it answers 0, and as many records as changes stand.
pub record Told {K : Kind} (start : State) (calls : List (KindCall K)) : Type 0 where
  pub accepted : (journal_info (run_of start calls)).number ≡ 0
  pub counted : (journal_info (run_of start calls)).records ≡ length (standing_of start [] calls)

abbrev pub ToldTheorem : Kind → Type 0
ToldTheorem K =
    (image : List ℕ) (size : ℕ) (calls : List (KindCall K)) → check image ≡ 0 → min_journal ≤ size → size ≤ max_journal
    → let start : State = record { image = image; journal = started size } in
    AllFit start calls → Told start calls

-- BACK TO THE START: after every run, the mark 5 gives image and whole journal of the start, and answers how many changes stood.
abbrev pub ToStartTheorem : Kind → Type 0
ToStartTheorem K =
    (image : List ℕ) (size : ℕ) (calls : List (KindCall K)) → check image ≡ 0 → min_journal ≤ size → size ≤ max_journal
    → let start : State = record { image = image; journal = started size } in
    AllFit start calls → undo_to (run_of start calls) 5 ≡ backed start 0 (length (standing_of start [] calls))

-- BACK TO A MOMENT: `before` are the calls up to it, `since` those after it; the mark is what an info answered there. If every change that stood there still stands
-- (the list has the last one first: `later` are those made since), image and whole journal are those of the moment, and the answer says how many were taken back.
abbrev pub ToMarkTheorem : Kind → Type 0
ToMarkTheorem K =
    (image : List ℕ) (size : ℕ) (before since : List (KindCall K)) → check image ≡ 0 → min_journal ≤ size → size ≤ max_journal
    → let start : State = record { image = image; journal = started size } in
    AllFit start (before ++ since)
    → (later : List Change) → standing_of start [] (before ++ since) ≡ later ++ standing_of start [] before
    → undo_to (run_of start (before ++ since)) (journal_info (run_of start before)).used ≡ backed (run_of start before) 0 (length later)

-- No undo went below: while the calls are made, one by one, never fewer changes stand than a number.
unfoldable pub NeverBelow : State → ℕ → List Change → List Call → Type 0
NeverBelow start k cs [] = Unit {0}
NeverBelow start k cs (c ∷ calls) = (k ≤ length (standing_after start cs c)) × NeverBelow start k (standing_after start cs c) calls

-- Then every change that stood still stands: some were made since, and what stood is the rest of the list.
pub record StillStand (start : State) (cs : List Change) (calls : List Call) : Type 0 where
  pub later : List Change
  pub whole : standing start cs calls ≡ later ++ cs

-- BACK TO A MOMENT, by the calls: if since then never fewer changes stood than at the moment, some number of changes was made since, and the mark gives the moment.
abbrev pub NeverBelowTheorem : Kind → Type 0
NeverBelowTheorem K =
    (image : List ℕ) (size : ℕ) (before since : List (KindCall K)) → check image ≡ 0 → min_journal ≤ size → size ≤ max_journal
    → let start : State = record { image = image; journal = started size } in
    let stood = standing_of start [] before in
    AllFit start (before ++ since)
    → NeverBelow start (length stood) stood (as_calls (run_of start before) since)
    → (k : ℕ) × (undo_to (run_of start (before ++ since)) (journal_info (run_of start before)).used ≡ backed (run_of start before) 0 k)
