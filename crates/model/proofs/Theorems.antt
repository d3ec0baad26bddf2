-- WHAT IS PROMISED OF THE MODEL. `Shows s m`: the image s shows the model m. Together these say that the model's pages are the whole of what a user of a volume
-- sees: what is there at the start, what each change makes of it, which number it is refused with, and what each look answers, over any run of calls.
use Prim.Native.Nat.{ℕ, ◌*◌, ◌≤◌}
use mathlib.Core.Path.{◌≡◌, ap}
use mathlib.Core.Bool.{true, false, ◌||◌}
use mathlib.Core.List.{List, []}
use mathlib.Core.Logic.{◌≢◌}
use lib.ListN.{length}
use lib.Dec.{eqb}
use Rattle.layout.specs.Limits.{min_journal, max_journal}
use Rattle.layout.specs.Bytes.{part}
use Rattle.layout.specs.Geometry.{blocks_for}
use Rattle.layout.specs.Check.{check}
use Rattle.layout.specs.Directory.{good_name}
use Rattle.layout.specs.Claims.{is_inside}
use Rattle.layout.specs.Looks.{lookup, read, look_in_place, read_attributes, next_entry}
use Rattle.volume.specs.Change.{delete_directory}
use Rattle.volume.specs.Views.{SameFiles}
use Rattle.store.specs.Claims.{Bytes}
use Rattle.store.specs.Settings.{added}
use Rattle.store.specs.Put.{front, path_of, held_in}
use Rattle.store.specs.Get.{Which, get_in}
use Rattle.store.specs.Change.{Change, plain, put_in, refusal, after, subject, subjects}
use Rattle.journal.specs.Journal.{started}
use Rattle.journal.specs.Run.{Call, State, change_refusal, after_change, run}
use Rattle.journal.specs.Replay.{standing}
use Rattle.model.specs.Model.{Node, Model, step, settings, shows_nothing}
use Rattle.model.specs.Looks.{bytes_in, no_file, read_in, read_attributes_in, revisions_in, settings_in}
use Rattle.model.specs.Refusals.{parent_of, no_folder, refusal_in}
use Rattle.model.specs.Listing.{child, Lists, room_for, list_number, EntrySays, goal, leads_on, stays_in, Comes}
use Rattle.model.specs.Refines.{Shows, Tree, model_of, place_in, place_for, is_bare}
use Rattle.model.specs.Orders as orders
use Rattle.model.specs.Orders.{Clerk, asks}
use Rattle.model.specs.Runs.{ModelRunTheorem, modelled}
use Rattle.model.specs.Calls.{EveryCallTheorem}
use Rattle.layout.specs.Lists.{same, has}
use Rattle.layout.proofs.Laws.Tests.{true-not-false}
use Rattle.layout.proofs.Laws.Lists.{in-has}
use Rattle.layout.proofs.Laws.Names.{same-eq, same_refl}
use Rattle.model.proofs.Laws.Models as models
use Rattle.model.proofs.Laws.Steps as steps
use Rattle.model.proofs.Laws.Looks as looks
use Rattle.model.proofs.Laws.Exists as exists
use Rattle.model.proofs.Laws.Trees as trees
use Rattle.model.proofs.Laws.Refusals as refusals
use Rattle.model.proofs.Laws.Folders as folders
use Rattle.model.proofs.Laws.Counts as counts
use Rattle.model.proofs.Laws.Entries as entries
use Rattle.model.proofs.Laws.Runs as runs
use Rattle.model.proofs.Laws.Calls as calls
use Rattle.model.proofs.Corollaries as corollaries

-- THE START: every sound image of bytes shows a model.
pub shows-some : (s : List ℕ) → Bytes s → check s ≡ 0 → Shows s (model_of s)
shows-some = exists.shows-some

-- A sound image s that shows m.
module _ (s : List ℕ) (m : Model) (shown : Shows s m) (ok : check s ≡ 0) where
  -- It is a tree: what has a path inside it that shows something is a folder.
  pub shows-tree : Tree m
  shows-tree = trees.shows-tree s m shown

  -- A CHANGE is refused with the model's number; whether there is a place for a new name (13) and whether a folder is empty (18) is said below, by names.
  pub refused : (c : Change) → refusal s c ≡ refusal_in (place_for s c) (is_bare s (subject c)) m c
  refused = refusals.decided s m shown ok

  -- Accepted, it leaves an image that shows the model's step.
  pub refines : (c : Change) → refusal s c ≡ 0 → Shows (after s c) (step m c)
  refines = steps.refines s m shown ok

  -- SETTINGS are a list of revisions for each directory and serial number. An accepted put adds one to its own, and a change that is about another path leaves them.
  pub put-adds : (directory serial : List ℕ) (time : ℕ) (bytes : List ℕ) → refusal s (put_in directory serial time bytes) ≡ 0
      → revisions_in (step m (put_in directory serial time bytes)) directory serial ≡ added (revisions_in m directory serial) bytes
  put-adds directory serial time bytes r = ap held_in (steps.put-adds s m shown ok directory serial time bytes r)

  pub revisions-stay : (c : Change) → refusal s c ≡ 0 → (directory serial : List ℕ) → has same (path_of directory serial) (subjects c) ≡ false
      → revisions_in (step m c) directory serial ≡ revisions_in m directory serial
  revisions-stay c r directory serial away = ap (λ (x : Node). held_in (settings x)) (models.other_at m c (steps.allowed s m shown ok c r) (path_of directory serial)
      (λ i. true-not-false (in-has same same-eq same_refl (path_of directory serial) (subjects c) i) away))

  -- 13: whether there is a place, by the names in the folder that the new name comes to; a move within a folder has its own. 18: a folder is empty if it has no
  -- names, and one that is removed has nothing inside.
  pub places : (path : List ℕ) (tos : List (List ℕ)) → leads_on m path tos ≡ true
      → let at = parent_of (goal path tos) in
      (names : List (List ℕ)) × Lists m at names × (place_in s path tos ≡ stays_in path tos || room_for m at names)
  places = counts.places s m shown ok

  pub bare-counted : (path : List ℕ) → no_folder m path ≡ 0 → (names : List (List ℕ)) × Lists m path names × (is_bare s path ≡ eqb (length names) 0)
  bare-counted = counts.bare-counted s m shown ok

  pub removed-bare : (path : List ℕ) → refusal s (plain (delete_directory path)) ≡ 0 → (other : List ℕ) → is_inside other path ≡ true → other ≢ path → shows_nothing (m.at other) ≡ true
  removed-bare = corollaries.removed-bare s m shown ok

  -- Two changes on different paths, accepted in both orders, leave the same files (L13).
  pub either_order : (c d : Change) → refusal s c ≡ 0 → refusal (after s c) d ≡ 0 → refusal s d ≡ 0 → refusal (after s d) c ≡ 0 → subject c ≢ subject d
      → SameFiles (after (after s c) d) (after (after s d) c)
  either_order = corollaries.either_order s m shown ok

  -- LOOKS answer what the model answers, numbers and all; look up but for the slot.
  pub read-model : (path : List ℕ) (offset : ℕ) (buffer : List ℕ) → read s path offset buffer ≡ read_in m path offset buffer
  read-model = looks.read-model s m shown ok

  pub attributes-model : (path buffer : List ℕ) → read_attributes s path buffer ≡ read_attributes_in m path buffer
  attributes-model = looks.attributes-model s m shown ok

  pub look-model : (path : List ℕ) (i : ℕ) → look_in_place s path i ≡ part (bytes_in (m.at path)) (512 * i) 512
  look-model = looks.look-model s m shown ok

  pub lookup-model : (path : List ℕ)
      → ((lookup s path).number ≡ no_file m path) × ((lookup s path).size ≡ length (bytes_in (m.at path))) × ((lookup s path).blocks ≡ blocks_for (length (bytes_in (m.at path))))
  lookup-model = looks.lookup-model s m shown ok

  -- A listing: each entry is that of what is at a name, and every name comes.
  pub entry-says : (path buffer : List ℕ) (start : ℕ) → EntrySays m path buffer (next_entry s path start buffer)
  entry-says = entries.entry-says s m shown ok

  pub every-name : (path buffer : List ℕ) → list_number m path ≡ 0 → (name : List ℕ) → good_name name ≡ true → shows_nothing (m.at (child (front path) name)) ≡ false
      → Comes (λ start. next_entry s path start buffer) buffer name
  every-name = entries.comes s m shown ok

  pub get-model : (directory serial : List ℕ) (which : Which) (buffer : List ℕ) → get_in s directory serial which buffer ≡ settings_in m directory serial which buffer
  get-model = looks.get-model s m shown ok

-- L13 from an image and a journal, for changes of every kind; and for two creates, writes or deletes in the words of the request: "on different paths, neither
-- inside the other, given the same times: if both, one right after the other from the same image and journal, are accepted in both orders, then afterwards the
-- same paths exist with the same bytes, times and other given fields, and the free count is the same". That neither is inside the other is not used.
pub journal-order : (p : State) (m : Model) → Shows p.image m → (c d : Change)
    → change_refusal p c ≡ 0 → change_refusal (after_change p c) d ≡ 0 → change_refusal p d ≡ 0 → change_refusal (after_change p d) c ≡ 0
    → subject c ≢ subject d → SameFiles (after_change (after_change p c) d).image (after_change (after_change p d) c).image
journal-order = corollaries.journal-order

pub clerks : (p : State) (m : Model) → Shows p.image m → (c d : Clerk) → orders.path_of c ≢ orders.path_of d → is_inside (orders.path_of c) (orders.path_of d) ≡ false → is_inside (orders.path_of d) (orders.path_of c) ≡ false
    → change_refusal p (asks c) ≡ 0 → change_refusal (after_change p (asks c)) (asks d) ≡ 0 → change_refusal p (asks d) ≡ 0 → change_refusal (after_change p (asks d)) (asks c) ≡ 0
    → SameFiles (after_change (after_change p (asks c)) (asks d)).image (after_change (after_change p (asks d)) (asks c)).image
clerks = corollaries.clerks

-- Two lists of the names of a folder are as long, so 13 and 18 go by the model alone.
pub as_many : (m : Model) (at : List ℕ) (ns ks : List (List ℕ)) → Lists m at ns → Lists m at ks → length ns ≡ length ks
as_many = folders.as_many

-- A RUN. After any calls the image shows what their answers tell, and the model says so of every answer.
pub model-run : ModelRunTheorem
model-run = runs.model-run

-- The same by the changes that stand.
pub run-shown : (image : List ℕ) (m : Model) (size : ℕ) → check image ≡ 0 → Shows image m → min_journal ≤ size → size ≤ max_journal
    → let start : State = record { image = image; journal = started size } in
    (calls : List Call) → Shows (run start calls).image (modelled m (standing start [] calls))
run-shown = runs.run-shown

-- ALL CALLS of a run, of all kinds in any order, each by its own answer.
pub every_call : EveryCallTheorem
every_call = calls.every_call
