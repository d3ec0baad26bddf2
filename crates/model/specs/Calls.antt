-- FURTHER CALLS BY THE MODEL: what a list of writes, an append, a read on and an undo to a mark tell by their own answers. A load or a store of the table, if it
-- does not end the run, and an info of the journal tell nothing new: they only look.
use Rattle.std.specs.Prelude.{ℕ, zero, suc, ◌+◌, ◌≤◌, ◌≡◌, true, false, List, [], ◌∷◌, ◌≢◌, ◌⊎◌, length, take}
use Rattle.layout.specs.Refusals.{accept}
use Rattle.layout.specs.Limits.{min_journal, max_journal}
use Rattle.layout.specs.Check.{check}
use Rattle.store.specs.Change.{Change, write}
use Rattle.journal.specs.Journal.{started}
use Rattle.journal.specs.Run.{number_of, State, step, answer}
use Rattle.journal.specs.Kinds.{KindCall, call, further, run_of, AllFit, one_of}
use Rattle.write_list.specs.List.{list_ok, writes}
use Rattle.write_list.specs.Runs.{Stopped}
use Rattle.append.specs.Runs.{Piece}
use Rattle.bulgefs.specs.Runs.{FurtherKind, list, append, read_on, table, journal_info, undo_to, kind_of}
use Rattle.model.specs.Model as model
use Rattle.model.specs.Model.{Model}
use Rattle.model.specs.Looks.{bytes_in, read_in}
use Rattle.model.specs.Refines.{Shows}
use Rattle.model.specs.Runs.{Story, begun, earlier, tells, Decided, Says}

-- so many changes made, and so many taken back
abbrev pub stepped : Story → Change → Story
stepped h c = record { now = model.step h.now c; past = h.now ∷ h.past }

unfoldable pub many : List Change → Story → Story
many [] h = h
many (c ∷ cs) h = many cs (stepped h c)

unfoldable pub back_by : ℕ → Story → Story
back_by zero h = h
back_by (suc k) h = back_by k (earlier h h.past)

-- an append is a write at the end of the file as it then stands, and nothing if the piece is empty
abbrev pub piece_of : Model → Piece → Change
piece_of m p = write p.path (length (bytes_in (m.at p.path))) p.bytes p.time

unfoldable pub appended : Story → Change → List ℕ → ℕ → Story
appended h c [] number = h
appended h c (b ∷ bs) number = accept number (stepped h c) h

unfoldable pub further_tells : (i : FurtherKind) → Story → (kind_of i).Further → (kind_of i).Reply → Story
further_tells list h l r = many (take r.done (writes l)) h
further_tells append h p a = appended h (piece_of h.now p) p.bytes (number_of a)
further_tells read_on h x a = h
further_tells table h x a = h
further_tells journal_info h x a = h
further_tells undo_to h mark r = back_by r.done h

-- A list is refused with 19 if it is not of the form; else its writes are made one by one until one is refused, with the number that it has.
unfoldable pub OneByOne : Story → List Change → (done number : ℕ) → Type 0
OneByOne h [] done number = (done ≡ 0) × (number ≡ 0)
OneByOne h (c ∷ cs) zero number = Decided h.now c number × (number ≢ 0)
OneByOne h (c ∷ cs) (suc done) number = Decided h.now c 0 × OneByOne (stepped h c) cs done number

pub record ListSays (h : Story) (l : List ℕ) (r : Stopped) : Type 0 where
  pub broken : list_ok l ≡ false → (r.done ≡ 0) × (r.number ≡ 19)
  pub right : list_ok l ≡ true → OneByOne h (writes l) r.done r.number

-- An append's number is that of its write. A read on answers as a read at its place, which moves on by the count. An undo to a mark is refused with 27, and takes
-- nothing back, or answers 0.
unfoldable pub FurtherSays : (i : FurtherKind) → Story → (kind_of i).Further → (kind_of i).Reply → Type 0
FurtherSays list h l r = ListSays h l r
FurtherSays append h p a = Decided h.now (piece_of h.now p) (number_of a)
FurtherSays read_on h x a =
    (a.answer ≡ read_in h.now x.path x.position x.buffer) × (a.next ≡ x.position + (read_in h.now x.path x.position x.buffer).count)
FurtherSays table h x a = Unit {0}
FurtherSays journal_info h x a = Unit {0}
FurtherSays undo_to h mark r = ((r.number ≡ 27) × (r.done ≡ 0)) ⊎ (r.number ≡ 0)

-- EVERY CALL, from a state on, each with the answer that it gives there
abbrev pub AnyCall : Type 0
AnyCall = KindCall (one_of kind_of)

unfoldable pub told_all : State → Story → List AnyCall → Story
told_all p h [] = h
told_all p h (call c ∷ cs) = told_all (step p c) (tells h c (answer p c)) cs
told_all p h (further x ∷ cs) = told_all ((kind_of x.0).after p x.1) (further_tells x.0 h x.1 ((kind_of x.0).reply p x.1)) cs

unfoldable pub SaidAll : State → Story → List AnyCall → Type 0
SaidAll p h [] = Unit {0}
SaidAll p h (call c ∷ cs) = Says h c (answer p c) × SaidAll (step p c) (tells h c (answer p c)) cs
SaidAll p h (further x ∷ cs) =
    FurtherSays x.0 h x.1 ((kind_of x.0).reply p x.1)
    × SaidAll ((kind_of x.0).after p x.1) (further_tells x.0 h x.1 ((kind_of x.0).reply p x.1)) cs

-- THE CLAIM: after any calls of a run, of all kinds in any order, of which none ends it, the image shows what their answers tell, and the model says so of
-- every answer
pub record ToldAll (start : State) (m : Model) (calls : List AnyCall) : Type 0 where
  pub shown : Shows (run_of start calls).image (told_all start (begun m) calls).now
  pub said : SaidAll start (begun m) calls

abbrev pub EveryCallTheorem : Type 0
EveryCallTheorem =
    (image : List ℕ) (m : Model) (size : ℕ) (calls : List AnyCall) → check image ≡ 0 → Shows image m → min_journal ≤ size → size ≤ max_journal
    → let start : State = record { image = image; journal = started size } in
    AllFit start calls → ToldAll start m calls
