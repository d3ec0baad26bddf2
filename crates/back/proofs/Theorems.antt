-- What is promised of journal info and of undo to a mark.
use Prim.Native.Nat.{ℕ, ◌+◌}
use mathlib.Core.Bool.{true}
use mathlib.Core.List.{List, ◌∷◌, map}
use lib.ListN.{length}
use mathlib.Core.Path.{◌≡◌}
use Rattle.layout.specs.Bytes.{be32}
use Rattle.store.specs.Change.{Change}
use Rattle.journal.specs.Journal.{records, well_formed}
use Rattle.journal.specs.Run.{State, Call, undone, undo_refusal, undo_answer, run}
use Rattle.journal.specs.Kinds.{Kind, Reached, StandsFor}
use Rattle.journal.specs.Back.{undos}
use Rattle.back.specs.Marks.{marks, journal_info}
use Rattle.back.specs.UndoTo.{back_by, undo_to, Undoable}
use Rattle.back.specs.Runs.{InfoRunTheorem, BackRunTheorem, ToldTheorem, ToStartTheorem, ToMarkTheorem, NeverBelow, StillStand, NeverBelowTheorem}
use Rattle.back.proofs.Laws.Marks as ends
use Rattle.back.proofs.Laws.Runs as runs

-- The marks of a well-formed journal are 5 and where each of its records ends, in their order. (A record's first four bytes are its length.)
pub marks-end : (j : List ℕ) (n : ℕ) → well_formed j n ≡ true → marks j ≡ 5 ∷ map (λ at. at + be32 j at) (records j)
marks-end = ends.marks-end

-- On every state that a run reaches, image and whole journal are those of single undos, each with its check, as many as the call says it did. (On any bytes that pass
-- 1 to 8 they are `back_by`, the rule of undo so many times without the check: that is the contract.)
pub back-run : (p : State) → Reached p → (mark : ℕ) → (undo_to p mark).state ≡ run p (undos (undo_to p mark).done)
back-run = runs.back-run

-- On any image and journal, where so many single undos are accepted, what they leave is the rule so many times.
pub back-undos : (k : ℕ) (p : State) → Undoable p k → back_by p k ≡ run p (undos k)
back-undos = runs.back-undos

-- On any image and journal, the length that an info tells of the last record is what an undo answers, if it is accepted.
pub undo-told : (p : State) → undo_refusal p ≡ 0 → undo_answer p ≡ undone 0 (journal_info p).last
undo-told = runs.undo-told

-- DEMAND 3 over runs with infos, and over runs with undos to marks.
pub every-info-run : InfoRunTheorem
every-info-run = runs.every-info-run

pub every-back-run : BackRunTheorem
every-back-run = runs.every-back-run

-- After every run, of any kinds of calls, an info answers 0 and as many records as changes stand.
pub all_told : (K : Kind) → StandsFor K → ToldTheorem K
all_told = runs.all_told

-- After every run, of any kinds of calls, undo to 5 gives image and whole journal of the start, and says how many changes stood.
pub start-again : (K : Kind) → StandsFor K → ToStartTheorem K
start-again = runs.start-again

-- And undo to the mark of a moment whose changes all still stand gives image and whole journal of that moment.
pub moment-again : (K : Kind) → StandsFor K → ToMarkTheorem K
moment-again = runs.moment-again

-- The premise of `moment-again`, by the calls: where no undo goes below what stood, it still stands.
pub still-stand : (start : State) (cs : List Change) (calls : List Call) → NeverBelow start (length cs) cs calls → StillStand start cs calls
still-stand = runs.still-stand

pub never-below : (K : Kind) → StandsFor K → NeverBelowTheorem K
never-below = runs.never-below
