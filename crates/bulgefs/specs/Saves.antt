-- SAVED WHOLE OR NOT AT ALL, over whole runs (VOLUME-FILE.md, 5). A program works on a pair in memory, an image and its journal, and saves it now and then
-- into a volume file. Power may fail at any time: between two saves, within a save, and within a recovery. Then the pair in memory is lost; the program
-- recovers its file, and goes on with the pair that it finds there.
use Rattle.std.specs.Prelude.{ℕ, ◌≡◌, ◌⊎◌, List, [], ◌∷◌, length}
use Rattle.layout.specs.Check.{check}
use Rattle.journal.specs.Journal.{started}
use Rattle.journal.specs.Run.{State, state}
use Rattle.journal.specs.Kinds.{KindCall, step_of, FitsRun, one_of}
use Rattle.back.specs.UndoTo.{backed, undo_to as undoToMark}
use Rattle.volume_file.specs.Format.{image_of, journal_of, own_of}
use Rattle.volume_file.specs.Save.{home_with, changes, prepare_refusal, committed, recovered}
use Rattle.volume_file.specs.Cuts.{Quiet, Cut, RecoveryCuts}
use Rattle.bulgefs.specs.Runs.{kind_of}

-- the pair that a file holds; its journal has 512·m bytes, the m sectors that it stands in
abbrev pub pair_of : List ℕ → State
pair_of file = state (image_of file) (journal_of file)

-- a file as it was begun: its log does not wait, its image is sound, and its journal was just started
pub record Begun (file : List ℕ) : Type 0 where
  pub quiet : Quiet file
  pub sound : check (image_of file) ≡ 0
  pub fresh : journal_of file ≡ started (length (journal_of file))

-- A LIFE of a file `begun`: the pair p in memory, the file, and the pairs of the moments at which a save was made or cut, from the last one made on.
pub data Life (begun : List ℕ) : (p : State) (file : List ℕ) (saved : List State) → Type 0 where
  -- it begins with the pair of the file
  begins : Life begun (pair_of begun) begun (pair_of begun ∷ [])
  -- any call on the pair; only a store of other numbers than the image's own is none
  calls : {p : State} {file : List ℕ} {saved : List State} → Life begun p file saved
      → (c : KindCall (one_of kind_of)) → FitsRun p c → Life begun (step_of p c) file saved
  -- a save that is made: its four steps
  saves : {p : State} {file : List ℕ} {saved : List State} → Life begun p file saved
      → (own : List ℕ) → prepare_refusal file p.image p.journal own ≡ 0
      → Life begun p (recovered (committed file (home_with p.image p.journal own))) (p ∷ [])
  -- a save that finds nothing to write, since no sector differs
  finds : {p : State} {file : List ℕ} {saved : List State} → Life begun p file saved
      → (own : List ℕ) → prepare_refusal file p.image p.journal own ≡ 0
      → length (changes file (home_with p.image p.journal own)) ≡ 0 → Life begun p file (p ∷ [])
  -- a save that is cut, and recovery, cut any number of times before it comes to its end
  cut : {p : State} {file : List ℕ} {saved : List State} → Life begun p file saved
      → (own : List ℕ) → prepare_refusal file p.image p.journal own ≡ 0
      → {left found : List ℕ} → Cut file (home_with p.image p.journal own) left → RecoveryCuts left found
      → Life begun (pair_of (recovered found)) (recovered found) (p ∷ saved)
  -- power fails while nothing is written
  off : {p : State} {file : List ℕ} {saved : List State} → Life begun p file saved → Life begun (pair_of file) file saved

-- a pair is one of some
abbrev pub OneOf : State → List State → Type 0
OneOf p [] = ⊥
OneOf p (q ∷ qs) = (p ≡ q) ⊎ OneOf p qs

-- undo to the mark 5 gives the pair of the beginning, image and whole journal, byte for byte, and answers how many changes it took back
abbrev pub BackToBegin : List ℕ → State → Type 0
BackToBegin begun p = (k : ℕ) × (undoToMark p 5 ≡ backed (pair_of begun) 0 k)

-- Whatever was called, saved and cut: the file's log does not wait; the pair that it holds is one of those at which a save was made or cut; and from it, from
-- any of these, and from the pair in memory, one undo gives the pair of the beginning.
pub record Kept (begun : List ℕ) (p : State) (file : List ℕ) (saved : List State) : Type 0 where
  pub quiet : Quiet file
  pub whole : OneOf (pair_of file) saved
  pub back : BackToBegin begun (pair_of file)
  pub saved-back : (q : State) → OneOf q saved → BackToBegin begun q
  pub memory-back : BackToBegin begun p

abbrev pub EveryLifeTheorem : Type 0
EveryLifeTheorem =
    (begun : List ℕ) → Begun begun → (p : State) (file : List ℕ) (saved : List State) → Life begun p file saved → Kept begun p file saved

-- And a save is never refused: `prepare` accepts the pair in memory at every moment, with as many bytes of the program's own as the file has room for.
abbrev pub SaveAcceptedTheorem : Type 0
SaveAcceptedTheorem =
    (begun : List ℕ) → Begun begun → (p : State) (file : List ℕ) (saved : List State) → Life begun p file saved
    → (own : List ℕ) → length own ≡ length (own_of begun) → prepare_refusal file p.image p.journal own ≡ 0
