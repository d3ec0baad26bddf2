-- Runs by the model: from the theorem over runs, and one step.
use Prim.Native.Nat.{ℕ, zero, suc, ◌+◌, ◌≤◌}
use mathlib.Core.Path.{◌≡◌, refl, ap, ◌∙◌}
use mathlib.Core.Bool.{Bool, true}
use mathlib.Core.List.{List, [], ◌∷◌}
use lib.ListN.{length}
use Rattle.layout.specs.Limits.{min_journal, max_journal}
use Rattle.layout.specs.Check.{check}
use Rattle.layout.specs.Geometry.{block_count}
use Rattle.layout.specs.Refusals.{require, first_of}
use lib.Dec.{leb}
use Rattle.layout.specs.Looks.{LookupAnswer, lookup, extent_of, volume_info, next_entry}
use Rattle.store.specs.Change.{Change, refusal, after, subject, further}
use Rattle.store.proofs.Theorems.{change-sound}
use Rattle.journal.specs.Journal.{started, used, well_formed}
use Rattle.journal.specs.Run.{Look, check_image, find_file, read_file, look_at, read_attributes_of, show_volume, show_entry, get_settings_in, Call, change, undo, look, checked, found, filled, shown, got, number_of, State, record_of, change_refusal, after_change, change_answer, look_answer, answer, run, answers}
use Rattle.journal.specs.Replay.{RunInvariant, replayed, standing_after, standing, replay_answer}
use Rattle.journal.proofs.Laws.Undo.{first, kept}
use Rattle.journal.proofs.Laws.Runs.{Stand, One, one-call, run-stands}
use Rattle.journal.proofs.Theorems.{every-run}
use Rattle.layout.proofs.Laws.Tests.{require-zero, first_of-zero}
use Rattle.model.specs.Model.{Model}
use Rattle.model.specs.Refines.{Shows, place_in, place_for, is_bare}
use Rattle.model.specs.Runs.{Story, tells, told, LookSays, Decided, undo_number, Says, AllSaid, ModelRunTheorem, modelled}
use Rattle.model.proofs.Laws.Steps.{refines}
use Rattle.model.proofs.Laws.Refusals.{decided}
use Rattle.model.proofs.Laws.Counts.{bare-counted, places}
use Rattle.model.proofs.Laws.Entries.{entry-says}
use Rattle.model.proofs.Laws.Looks.{lookup-model, read-model, look-model, attributes-model, get-model}

-- an accepted change on a state
pub accepted : (p : State) (c : Change) → change_refusal p c ≡ 0 → (check p.image ≡ 0) × (refusal p.image c ≡ 0) × ((after_change p c).image ≡ after p.image c)
unfolding change_refusal after_change
accepted p c r =
    let a = first_of-zero (check p.image) _ r in
    let b = require-zero (well_formed p.journal (block_count p.image)) 7 (first_of (refusal p.image c) (require (leb (used p.journal + length (record_of p c)) (length p.journal)) 15 0)) a.1 in
    let d = first_of-zero (refusal p.image c) (require (leb (used p.journal + length (record_of p c)) (length p.journal)) 15 0) b.1 in
    (a.0, d.0, rw r)

pub number_is : (p : State) (c : Change) → number_of (change_answer p c) ≡ change_refusal p c
unfolding change_answer
number_is p c = go (change_refusal p c) refl
  where
    go : (k : ℕ) → change_refusal p c ≡ k → number_of (change_answer p c) ≡ change_refusal p c
    go zero e = rw e
    go (suc k) e = rw e

answer-is : (p : State) (c : Change) → number_of (answer p (change c)) ≡ change_refusal p c
unfolding answer
answer-is p c = number_is p c

ready-number : (p : State) (c : Change) → check p.image ≡ 0 → well_formed p.journal (block_count p.image) ≡ true
    → change_refusal p c ≡ first_of (refusal p.image c) (require (leb (used p.journal + length (record_of p c)) (length p.journal)) 15 0)
unfolding change_refusal
ready-number p c ok w = rw (ok, w)

look-record : (a : LookupAnswer) (n z b : ℕ) → a.number ≡ n → a.size ≡ z → a.blocks ≡ b → found a ≡ found (record { number = n; slot = a.slot; size = z; blocks = b })
look-record a n z b p q r =
    ap (λ (x : ℕ). found (record { number = x; slot = a.slot; size = a.size; blocks = a.blocks })) p
    ∙ ap (λ (x : ℕ). found (record { number = n; slot = a.slot; size = x; blocks = a.blocks })) q
    ∙ ap (λ (x : ℕ). found (record { number = n; slot = a.slot; size = z; blocks = x })) r

-- a look on a sound image
look-says : (s : List ℕ) (m : Model) → Shows s m → check s ≡ 0 → (l : Look) → LookSays m l (look_answer s l)
unfolding LookSays look_answer volume_info
look-says s m S ok check_image = ap checked ok
look-says s m S ok (find_file path) =
    let w = lookup-model s m S ok path in
    ((lookup s path).slot, look-record (lookup s path) _ _ _ w.0 w.1 w.2)
look-says s m S ok (read_file path offset buffer) = ap filled (read-model s m S ok path offset buffer)
look-says s m S ok (look_at path i) = (extent_of s path i, ap (shown (extent_of s path i)) (look-model s m S ok path i))
look-says s m S ok (read_attributes_of path buffer) = ap filled (attributes-model s m S ok path buffer)
look-says s m S ok (show_volume buffer) = (volume_info s buffer, refl, rw ok S.free, rw ok S.root_size)
look-says s m S ok (show_entry path start buffer) = (next_entry s path start buffer, refl, entry-says s m S ok path buffer start)
look-says s m S ok (get_settings_in directory serial which buffer) = ap got (get-model s m S ok directory serial which buffer)

-- a change on a sound image: its number is the model's
place-for : (s : List ℕ) (c : Change) → place_for s c ≡ place_in s (subject c) (further c)
unfolding place_for
place-for s c = refl

weighs : (s : List ℕ) (m : Model) → Shows s m → check s ≡ 0 → (c : Change) (fits : Bool) (number : ℕ) → number ≡ first_of (refusal s c) (require fits 15 0) → Decided m c number
weighs s m S ok c fits number e =
    record {
      place = place_for s c;
      empty = is_bare s (subject c);
      fits = fits;
      is = e ∙ ap (λ (k : ℕ). first_of k (require fits 15 0)) (decided s m S ok c);
      placed = λ h. let w = places s m S ok (subject c) (further c) h in (w.0, w.1, place-for s c ∙ w.2);
      bare = bare-counted s m S ok (subject c);
    }

first_of-none : (n : ℕ) → n ≡ first_of n (require true 15 0)
first_of-none zero = refl
first_of-none (suc n) = refl

-- the story of changes that stand
unfoldable pub past_of : Model → List Change → List Model
past_of m [] = []
past_of m (c ∷ cs) = modelled m cs ∷ past_of m cs

abbrev pub story_of : Model → List Change → Story
story_of m cs = record { now = modelled m cs; past = past_of m cs }

module _ (image : List ℕ) (m : Model) (size : ℕ) (ok : check image ≡ 0) (S : Shows image m) (low : min_journal ≤ size) (high : size ≤ max_journal) where
  abbrev start : State
  start = record { image = image; journal = started size }

  -- the changes that stand, on both sides
  pub standing-shown : (cs : List Change) → Stand start cs → RunInvariant (block_count image) size (replayed start cs) × Shows (replayed start cs).image (modelled m cs)
  unfolding Stand replayed modelled
  standing-shown [] t = (first image size ok low high, S)
  standing-shown (c ∷ cs) t =
      let h = standing-shown cs t.1 in
      let a = accepted (replayed start cs) c t.0 in
      (kept (λ s d o r. change-sound s o d r) (replayed start cs) c t.0 h.0, rw a.2 (refines (replayed start cs).image (modelled m cs) h.1 h.0.sound c a.1))

  undo-number : (cs : List Change) → Stand start cs → number_of (answer (replayed start cs) undo) ≡ undo_number (past_of m cs)
  unfolding One replay_answer past_of
  undo-number [] t = ap number_of (one-call (λ s c a r. change-sound s a c r) image size ok low high [] undo t).1
  undo-number (c ∷ cs) t = ap number_of (one-call (λ s c a r. change-sound s a c r) image size ok low high (c ∷ cs) undo t).1

  tells-change : (cs : List Change) (c : Change) (k : ℕ) → change_refusal (replayed start cs) c ≡ k → tells (story_of m cs) (change c) (answer (replayed start cs) (change c)) ≡ story_of m (standing_after start cs (change c))
  unfolding tells answer standing_after past_of modelled
  tells-change cs c zero e = rw (number_is (replayed start cs) c, e)
  tells-change cs c (suc k) e = rw (number_is (replayed start cs) c, e)

  pub tells-standing : (cs : List Change) (c : Call) → Stand start cs → tells (story_of m cs) c (answer (replayed start cs) c) ≡ story_of m (standing_after start cs c)
  unfolding tells standing_after past_of modelled
  tells-standing cs (change c) t = tells-change cs c (change_refusal (replayed start cs) c) refl
  tells-standing [] undo t = rw (undo-number [] t)
  tells-standing (c ∷ cs) undo t = rw (undo-number (c ∷ cs) t)
  tells-standing cs (look l) t = refl

  pub decides : (cs : List Change) (c : Change) → Stand start cs → Decided (modelled m cs) c (change_refusal (replayed start cs) c)
  decides cs c t =
      let h = standing-shown cs t in
      weighs (replayed start cs).image (modelled m cs) h.1 h.0.sound c
      (leb (used (replayed start cs).journal + length (record_of (replayed start cs) c)) (length (replayed start cs).journal))
      (change_refusal (replayed start cs) c) (ready-number (replayed start cs) c h.0.sound h.0.well-formed)

  pub decides-short : (cs : List Change) (c : Change) → Stand start cs → Decided (modelled m cs) c (refusal (replayed start cs).image c)
  decides-short cs c t =
      let h = standing-shown cs t in
      weighs (replayed start cs).image (modelled m cs) h.1 h.0.sound c true (refusal (replayed start cs).image c) (first_of-none (refusal (replayed start cs).image c))

  pub says-standing : (cs : List Change) (c : Call) → Stand start cs → Says (story_of m cs) c (answer (replayed start cs) c)
  unfolding Says
  says-standing cs (change c) t = rw (answer-is (replayed start cs) c) (decides cs c t)
  says-standing cs undo t = undo-number cs t
  says-standing cs (look l) t = let h = standing-shown cs t in unfold answer in look-says (replayed start cs).image (modelled m cs) h.1 h.0.sound l

  told-standing : (calls : List Call) (cs : List Change) → Stand start cs → told (story_of m cs) calls (answers (replayed start cs) calls) ≡ story_of m (standing start cs calls)
  unfolding told answers standing One
  told-standing [] cs t = refl
  told-standing (c ∷ calls) cs t =
      let o = one-call (λ s d a r. change-sound s a d r) image size ok low high cs c t in
      rw (tells-standing cs c t, o.0) (told-standing calls (standing_after start cs c) o.2)

  said-standing : (calls : List Call) (cs : List Change) → Stand start cs → AllSaid (story_of m cs) calls (answers (replayed start cs) calls)
  unfolding AllSaid answers One
  said-standing [] cs t = tt
  said-standing (c ∷ calls) cs t =
      let o = one-call (λ s d a r. change-sound s a d r) image size ok low high cs c t in
      (says-standing cs c t, rw (tells-standing cs c t, o.0) (said-standing calls (standing_after start cs c) o.2))

  -- after a run the image shows the model of the changes that stand; undone, of those before them
  pub run-shown : (calls : List Call) → Shows (run start calls).image (modelled m (standing start [] calls))
  run-shown calls =
      rw (every-run image size calls ok low high).state
      (standing-shown (standing start [] calls) (run-stands (λ s d a r. change-sound s a d r) image size calls ok low high)).1

-- THE RUN
pub model-run : ModelRunTheorem
unfolding Stand replayed past_of modelled
model-run image m size calls ok S low high =
    let start : State = record { image = image; journal = started size } in
    let q = told-standing image m size ok S low high calls [] tt in
    record { shown = rw q (run-shown image m size ok S low high calls); said = said-standing image m size ok S low high calls [] tt }
