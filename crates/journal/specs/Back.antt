-- Back to the start (FORMAT.md, 11): as many undos as changes stand give the image and the journal of the start.
use Rattle.std.specs.Prelude.{ℕ, ◌+◌, ◌-◌, ◌≤◌, ◌≡◌, List, [], ◌∷◌, ◌++◌, length, drop, replicate}
use Rattle.layout.specs.Refusals.{accept}
use Rattle.layout.specs.Limits.{min_journal, max_journal}
use Rattle.layout.specs.Check.{check}
use Rattle.store.specs.Change.{Change}
use Rattle.journal.specs.Journal.{started}
use Rattle.journal.specs.Run.{Call, undo, Answer, changed, undone, checked, found, filled, shown, described, entered, got, State, record_of, change_refusal, after_change, answer, run, answers}
use Rattle.journal.specs.Replay.{replayed, standing}
use Rattle.journal.specs.Kinds.{Kind, KindCall, KindAnswer, answered, replied, run_of, answers_of, AllFit, standing_of}

abbrev pub undos : ℕ → List Call
undos k = replicate k undo

-- what undos answer that take the standing changes back, last one first: 0 and the length of each one's record
unfoldable pub taken_back : State → List Change → List Answer
taken_back start [] = []
taken_back start (c ∷ cs) = undone 0 (length (record_of (replayed start cs) c)) ∷ taken_back start cs

-- How many changes stand, as a program counts them by its answers: one more at a change that answers 0, one less at an undo that answers 0.
abbrev pub count_after : ℕ → Answer → ℕ
count_after k (changed number slot size) = accept number (k + 1) k
count_after k (undone number size) = accept number (k - 1) k
count_after k (checked number) = k
count_after k (found a) = k
count_after k (filled a) = k
count_after k (shown x bytes) = k
count_after k (described a) = k
count_after k (entered a) = k
count_after k (got a) = k

unfoldable pub count : ℕ → List Answer → ℕ
count k [] = k
count k (a ∷ more) = count (count_after k a) more

-- After a run: k undos more take the last k standing changes back (the list has the last one first); as many as stand give the start, image and whole
-- journal; each of these answers 0 and its record's length, and one more is refused with 16. The program's count is the number of those that stand.
pub record BackToStart (start : State) (calls : List Call) : Type 0 where
  pub part : (k : ℕ) → run start (calls ++ undos k) ≡ replayed start (drop k (standing start [] calls))
  pub whole : run start (calls ++ undos (length (standing start [] calls))) ≡ start
  pub answered : answers (run start calls) (undos (length (standing start [] calls))) ≡ taken_back start (standing start [] calls)
  pub refused : answer (run start (calls ++ undos (length (standing start [] calls)))) undo ≡ undone 16 0
  pub counted : count 0 (answers start calls) ≡ length (standing start [] calls)

abbrev pub BackTheorem : Type 0
BackTheorem =
    (image : List ℕ) (size : ℕ) (calls : List Call) → check image ≡ 0 → min_journal ≤ size → size ≤ max_journal
    → BackToStart (record { image = image; journal = started size }) calls

-- The same after a run with further calls, of which none ends it: what stands is what the replay has.
pub record KindBackToStart {K : Kind} (start : State) (calls : List (KindCall K)) : Type 0 where
  pub part : (k : ℕ) → run (run_of start calls) (undos k) ≡ replayed start (drop k (standing_of start [] calls))
  pub whole : run (run_of start calls) (undos (length (standing_of start [] calls))) ≡ start
  pub answered : answers (run_of start calls) (undos (length (standing_of start [] calls))) ≡ taken_back start (standing_of start [] calls)
  pub refused : answer (run (run_of start calls) (undos (length (standing_of start [] calls)))) undo ≡ undone 16 0

abbrev pub KindBackTheorem : Kind → Type 0
KindBackTheorem K =
    (image : List ℕ) (size : ℕ) (calls : List (KindCall K)) → check image ≡ 0 → min_journal ≤ size → size ≤ max_journal
    → let start : State = record { image = image; journal = started size } in
    AllFit start calls → KindBackToStart start calls

-- The program's count over such a run. A kind's replies move it in a way of their own, `tell`, which is right if it follows the changes that stand: where so
-- many of them do, the count after a reply is that of the changes that stand after the calls that the further call is.
abbrev pub Tell : Kind → Type 0
Tell K = ℕ → K.Reply → ℕ

unfoldable pub count_of : {K : Kind} → Tell K → ℕ → List (KindAnswer K) → ℕ
count_of tell k [] = k
count_of tell k (answered a ∷ more) = count_of tell (count_after k a) more
count_of tell k (replied r ∷ more) = count_of tell (tell k r) more

abbrev pub TellsRight : (K : Kind) → Tell K → Type 0
TellsRight K tell =
    (start : State) (changes : List Change) (c : K.Further)
    → tell (length changes) (K.reply (replayed start changes) c) ≡ length (standing start changes (K.calls (replayed start changes) c))

abbrev pub KindCountTheorem : (K : Kind) → Tell K → Type 0
KindCountTheorem K tell =
    (image : List ℕ) (size : ℕ) (calls : List (KindCall K)) → check image ≡ 0 → min_journal ≤ size → size ≤ max_journal
    → let start : State = record { image = image; journal = started size } in
    AllFit start calls → run (run_of start calls) (undos (count_of tell 0 (answers_of start calls))) ≡ start

-- changes in order, each accepted on the state that those before it left
unfoldable pub AllAccepted : State → List Change → Type 0
AllAccepted p [] = Unit {0}
AllAccepted p (c ∷ cs) = (change_refusal p c ≡ 0) × AllAccepted (after_change p c) cs
