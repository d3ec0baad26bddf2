-- Runs by the model: what somebody knows of a volume who has the calls, their answers and the model, and nothing else.
use Rattle.std.specs.Prelude.{ℕ, ◌*◌, ◌≤◌, ◌≡◌, Bool, true, ◌||◌, List, [], ◌∷◌, length, eqb}
use Rattle.layout.specs.Refusals.{require, first_of, accept}
use Rattle.layout.specs.Limits.{min_journal, max_journal}
use Rattle.layout.specs.Bytes.{part}
use Rattle.layout.specs.Geometry.{blocks_for}
use Rattle.layout.specs.Check.{check}
use Rattle.layout.specs.Looks.{Extent, VolumeAnswer, EntryAnswer}
use Rattle.store.specs.Change.{Change, subject, further}
use Rattle.journal.specs.Journal.{started}
use Rattle.journal.specs.Run.{Look, check_image, find_file, read_file, look_at, read_attributes_of, show_volume, show_entry, get_settings_in, Call, change, undo, look, Answer, checked, found, filled, shown, described, entered, got, number_of, State, run, answers}
use Rattle.model.specs.Model.{Model, step}
use Rattle.model.specs.Looks.{bytes_in, no_file, read_in, read_attributes_in, settings_in}
use Rattle.model.specs.Refusals.{parent_of, no_folder, refusal_in}
use Rattle.model.specs.Listing.{Lists, room_for, EntrySays, goal, leads_on, stays_in}
use Rattle.model.specs.Refines.{Shows}

-- the model now, and those that undos go back to, the last one first
pub record Story : Type 0 where
  pub now : Model
  pub past : List Model

abbrev pub begun : Model → Story
begun m = record { now = m; past = [] }

abbrev pub earlier : Story → List Model → Story
earlier h [] = h
earlier h (m ∷ ms) = record { now = m; past = ms }

-- a change that answers 0 is a step, an undo that answers 0 goes back by one, and everything else changes nothing
unfoldable pub tells : Story → Call → Answer → Story
tells h (change c) a = accept (number_of a) (record { now = step h.now c; past = h.now ∷ h.past }) h
tells h undo a = accept (number_of a) (earlier h h.past) h
tells h (look l) a = h

unfoldable pub told : Story → List Call → List Answer → Story
told h [] more = h
told h (c ∷ cs) [] = h
told h (c ∷ cs) (a ∷ more) = told (tells h c a) cs more

-- What the model says of an answer. A look's is the model's own, but for where things lie: the slot of a look up, the place of a look in place, and of the
-- volume's numbers all but its free blocks and those of the root; an entry's fields are those of what is at its name. An undo is refused, with 16, where there is nothing to go back to.
unfoldable pub LookSays : Model → Look → Answer → Type 0
LookSays m check_image a = a ≡ checked 0
LookSays m (find_file path) a =
    (slot : ℕ) × (a ≡ found (record { number = no_file m path; slot = slot; size = length (bytes_in (m.at path)); blocks = blocks_for (length (bytes_in (m.at path))) }))
LookSays m (read_file path offset buffer) a = a ≡ filled (read_in m path offset buffer)
LookSays m (look_at path i) a = (x : Extent) × (a ≡ shown x (part (bytes_in (m.at path)) (512 * i) 512))
LookSays m (read_attributes_of path buffer) a = a ≡ filled (read_attributes_in m path buffer)
LookSays m (show_volume buffer) a = (x : VolumeAnswer) × (a ≡ described x) × (x.free ≡ m.free) × (x.root_blocks ≡ m.root_size)
LookSays m (show_entry path start buffer) a = (x : EntryAnswer) × (a ≡ entered x) × EntrySays m path buffer x
LookSays m (get_settings_in directory serial which buffer) a = a ≡ got (settings_in m directory serial which buffer)

-- A change's number is the model's; whether there is a place (13) and whether a folder is empty (18) go by the names in a folder. Unknown to the model is only
-- whether there is room in the journal (15).
pub record Decided (m : Model) (c : Change) (number : ℕ) : Type 0 where
  pub place : Bool
  pub empty : Bool
  pub fits : Bool
  pub is : number ≡ first_of (refusal_in place empty m c) (require fits 15 0)
  pub placed : leads_on m (subject c) (further c) ≡ true
      → let at = parent_of (goal (subject c) (further c)) in
      (names : List (List ℕ)) × Lists m at names × (place ≡ stays_in (subject c) (further c) || room_for m at names)
  pub bare : no_folder m (subject c) ≡ 0 → (names : List (List ℕ)) × Lists m (subject c) names × (empty ≡ eqb (length names) 0)

abbrev pub undo_number : List Model → ℕ
undo_number [] = 16
undo_number (m ∷ ms) = 0

unfoldable pub Says : Story → Call → Answer → Type 0
Says h (change c) a = Decided h.now c (number_of a)
Says h undo a = number_of a ≡ undo_number h.past
Says h (look l) a = LookSays h.now l a

unfoldable pub AllSaid : Story → List Call → List Answer → Type 0
AllSaid h [] more = Unit {0}
AllSaid h (c ∷ cs) [] = ⊥
AllSaid h (c ∷ cs) (a ∷ more) = Says h c a × AllSaid (tells h c a) cs more

-- THE CLAIM: from any sound image, which shows some model, and a journal just started, after any calls the image shows what the answers tell, and the model
-- says so of every answer
pub record Told (start : State) (m : Model) (calls : List Call) : Type 0 where
  pub shown : Shows (run start calls).image (told (begun m) calls (answers start calls)).now
  pub said : AllSaid (begun m) calls (answers start calls)

abbrev pub ModelRunTheorem : Type 0
ModelRunTheorem =
    (image : List ℕ) (m : Model) (size : ℕ) (calls : List Call) → check image ≡ 0 → Shows image m → min_journal ≤ size → size ≤ max_journal
    → Told (record { image = image; journal = started size }) m calls

-- the same by the changes that stand, the last one first
unfoldable pub modelled : Model → List Change → Model
modelled m [] = m
modelled m (c ∷ cs) = step (modelled m cs) c
