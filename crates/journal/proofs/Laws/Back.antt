-- Back to the start: what undos leave after a run, from the theorem over whole runs; the rest is about the replay alone.
use Prim.Native.Nat.{ℕ, zero, suc, ◌+◌, ◌≤◌}
use mathlib.Core.Path.{◌≡◌, refl, sym, ap, ◌∙◌}
use mathlib.Core.List.{List, [], ◌∷◌, ◌++◌, map}
use native.Mathlib.Omega.{arith}
use lib.ListN.{length, drop}
use lib.Seq.{drop-nil, drop-length}
use Rattle.layout.specs.Limits.{min_journal, max_journal}
use Rattle.layout.specs.Check.{check}
use Rattle.store.specs.Change.{Change}
use Rattle.store.proofs.Laws.Sound.{KeptSound}
use Rattle.journal.specs.Journal.{started}
use Rattle.journal.specs.Run.{Look, check_image, find_file, read_file, look_at, read_attributes_of, show_volume, show_entry, get_settings_in, Call, change, undo, look, Answer, undone, State, record_of, change_refusal, change_answer, look_answer, answer, run, answers}
use Rattle.journal.specs.Replay.{replayed, standing_after, replay_answer, standing, replay_answers, MatchesReplay}
use Rattle.journal.specs.Back.{undos, taken_back, count_after, count, BackTheorem, AllAccepted}
use Rattle.journal.proofs.Laws.Undo.{undone-none}
use Rattle.journal.proofs.Laws.Runs.{Stand, One, one-call, run-stands, run-theorem}

module _ (start : State) where
  -- what stands after two lists of calls
  pub standing-append : (cs : List Change) (xs ys : List Call) → standing start cs (xs ++ ys) ≡ standing start (standing start cs xs) ys
  unfolding standing
  standing-append cs [] ys = refl
  standing-append cs (x ∷ xs) ys = standing-append (standing_after start cs x) xs ys

  -- k undos take the last k changes off the list; there may be fewer
  pub standing-undos : (k : ℕ) (cs : List Change) → standing start cs (undos k) ≡ drop k cs
  unfolding standing standing_after
  standing-undos zero cs = refl
  standing-undos (suc k) [] = standing-undos k [] ∙ drop-nil k
  standing-undos (suc k) (c ∷ cs) = standing-undos k cs

  -- a call moves the count as it moves the list
  count-change : (cs : List Change) (c : Change) → count_after (length cs) (replay_answer start cs (change c)) ≡ length (standing_after start cs (change c))
  unfolding replay_answer standing_after change_answer
  count-change cs c = go (change_refusal (replayed start cs) c) refl
    where
      go : (k : ℕ) → change_refusal (replayed start cs) c ≡ k → count_after (length cs) (replay_answer start cs (change c)) ≡ length (standing_after start cs (change c))
      go zero e = rw e (omega arith)
      go (suc k) e = rw e

  count-look : (k : ℕ) (s : List ℕ) (l : Look) → count_after k (look_answer s l) ≡ k
  unfolding look_answer
  count-look k s check_image = refl
  count-look k s (find_file name) = refl
  count-look k s (read_file name offset buffer) = refl
  count-look k s (look_at name i) = refl
  count-look k s (read_attributes_of name buffer) = refl
  count-look k s (show_volume buffer) = refl
  count-look k s (show_entry name from buffer) = refl
  count-look k s (get_settings_in directory serial which buffer) = refl

  pub count-call : (cs : List Change) (c : Call) → count_after (length cs) (replay_answer start cs c) ≡ length (standing_after start cs c)
  unfolding replay_answer standing_after
  count-call cs (change c) = count-change cs c
  count-call [] undo = refl
  count-call (c ∷ cs) undo = omega arith
  count-call cs (look l) = count-look (length cs) (replayed start cs).image l

  count-standing : (cs : List Change) (calls : List Call) → count (length cs) (replay_answers start cs calls) ≡ length (standing start cs calls)
  unfolding count replay_answers standing
  count-standing cs [] = refl
  count-standing cs (c ∷ calls) =
      ap (λ (k : ℕ). count k (replay_answers start (standing_after start cs c) calls)) (count-call cs c) ∙ count-standing (standing_after start cs c) calls

  -- changes that are all accepted all stand
  pub one-stands : (cs : List Change) (c : Change) → change_refusal (replayed start cs) c ≡ 0 → standing_after start cs (change c) ≡ c ∷ cs
  unfolding standing_after
  one-stands cs c r = rw r

  all-stand : (cs changes : List Change) → AllAccepted (replayed start cs) changes → length (standing start cs (map change changes)) ≡ length cs + length changes
  unfolding standing AllAccepted replayed
  all-stand cs [] t = omega arith
  all-stand cs (c ∷ changes) t =
      ap (λ (l : List Change). length (standing start l (map change changes))) (one-stands cs c t.0) ∙ all-stand (c ∷ cs) changes t.1 ∙ omega arith

module _ (sound : KeptSound) (image : List ℕ) (size : ℕ) (ok : check image ≡ 0) (low : min_journal ≤ size) (high : size ≤ max_journal) where
  abbrev begun : State
  begun = record { image = image; journal = started size }

  matches : (calls : List Call) → MatchesReplay begun calls
  matches calls = run-theorem sound image size calls ok low high

  -- what undos answer after changes that stand
  answers-undos : (cs : List Change) → Stand begun cs → answers (replayed begun cs) (undos (length cs)) ≡ taken_back begun cs
  unfolding answers taken_back One replay_answer standing_after
  answers-undos [] t = refl
  answers-undos (c ∷ cs) t =
      let o = one-call sound image size ok low high (c ∷ cs) undo t in
      rw (o.0, o.1) (ap (λ (l : List Answer). undone 0 (length (record_of (replayed begun cs) c)) ∷ l) (answers-undos cs o.2))

  -- the parts of the theorem, of a run and the changes that stand after it
  module _ (calls : List Call) where
    abbrev stood : List Change
    stood = standing begun [] calls

    part : (k : ℕ) → run begun (calls ++ undos k) ≡ replayed begun (drop k stood)
    part k = (matches (calls ++ undos k)).state ∙ ap (replayed begun) (standing-append begun [] calls (undos k) ∙ standing-undos begun k stood)

    whole : run begun (calls ++ undos (length stood)) ≡ begun
    unfolding replayed
    whole = part (length stood) ∙ ap (replayed begun) (drop-length stood)

    answered : answers (run begun calls) (undos (length stood)) ≡ taken_back begun stood
    answered =
        ap (λ (p : State). answers p (undos (length stood))) (matches calls).state ∙ answers-undos stood (run-stands sound image size calls ok low high)

    refused : answer (run begun (calls ++ undos (length stood))) undo ≡ undone 16 0
    unfolding answer
    refused = ap (λ (p : State). answer p undo) whole ∙ undone-none image size ok low high

    counted : count 0 (answers begun calls) ≡ length stood
    counted = ap (count 0) (matches calls).answered ∙ count-standing begun [] calls

  -- changes that are all accepted, and as many undos
  pub changes-back : (changes : List Change) → AllAccepted begun changes → run begun (map change changes ++ undos (length changes)) ≡ begun
  unfolding replayed
  changes-back changes t =
      let e : length changes ≡ length (standing begun [] (map change changes)) = sym (all-stand begun [] changes t ∙ omega arith) in
      ap (λ (k : ℕ). run begun (map change changes ++ undos k)) e ∙ whole (map change changes)

-- BACK TO THE START
pub back-to-start : KeptSound → BackTheorem
back-to-start sound image size calls ok low high = record {
  part = part sound image size ok low high calls;
  whole = whole sound image size ok low high calls;
  answered = answered sound image size ok low high calls;
  refused = refused sound image size ok low high calls;
  counted = counted sound image size ok low high calls;
}
