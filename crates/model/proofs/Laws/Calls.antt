-- Every call by the model: further calls are calls of the run, and what they tell by their own answers is what those tell.
use Prim.Native.Nat.{ℕ, zero, suc, ◌+◌, ◌≤◌}
use mathlib.Core.Path.{◌≡◌, refl, sym, ap, ◌∙◌, subst}
use mathlib.Core.Bool.{Bool, true, false}
use mathlib.Core.List.{List, [], ◌∷◌, ◌++◌, map}
use mathlib.Core.Logic.{◌⊎◌, inl, inr}
use native.Mathlib.Nat.{suc-ne-zero}
use lib.ListN.{length, take}
use lib.Dec.{eqb}
use Rattle.layout.specs.Refusals.{require, accept}
use Rattle.layout.specs.Limits.{min_journal, max_journal}
use Rattle.layout.specs.Lists.{has}
use Rattle.layout.specs.Check.{check}
use Rattle.layout.specs.Directory.{is_file, size_of}
use Rattle.layout.specs.Paths.{entry_of, file_refusal}
use Rattle.layout.specs.Looks.{ReadAnswer}
use Rattle.layout.proofs.Laws.Tests.{true-or-false}
use Rattle.store.specs.Change.{Change, write}
use Rattle.store.proofs.Theorems.{change-sound}
use Rattle.journal.specs.Journal.{started}
use Rattle.journal.specs.Run.{Call, change, number_of, State, change_refusal, after_change, step, answer, run}
use Rattle.journal.specs.Replay.{replayed, standing_after, standing}
use Rattle.journal.specs.Kinds.{call, further, StandsFor, Reached, step_of, run_of, FitsRun, AllFit}
use Rattle.journal.specs.Back.{undos}
use Rattle.journal.proofs.Laws.Kinds.{run-append}
use Rattle.journal.proofs.Laws.Runs.{Stand, One, one-call, run-after}
use Rattle.write_list.specs.List.{Listed, list_ok, writes, listed, one_by_one, list_refusal, write_list}
use Rattle.write_list.proofs.Laws.Runs.{lists-stand}
use Rattle.append.specs.Append.{file_end, piece_write, append_refusal, append_answer}
use Rattle.append.specs.Runs.{Piece, piece_calls}
use Rattle.append.proofs.Laws.Runs.{pieces-stand}
use Rattle.chain_table.proofs.Laws.Runs.{transfers-stand}
use Rattle.back.specs.Marks.{marks, behind}
use Rattle.back.specs.UndoTo as marked
use Rattle.back.proofs.Laws.Runs.{infos-stand, backs-stand}
use Rattle.bulgefs.specs.Runs.{FurtherKind, list, append, read_on, table, journal_info, undo_to, readings, kind_of}
use Rattle.model.specs.Model.{Model}
use Rattle.model.specs.Looks.{bytes_in}
use Rattle.model.specs.Refines.{Shows}
use Rattle.model.specs.Runs.{Story, tells, Decided, modelled}
use Rattle.model.specs.Calls.{many, back_by, appended, further_tells, OneByOne, ListSays, FurtherSays, AnyCall, told_all, SaidAll, EveryCallTheorem}
use Rattle.model.proofs.Laws.Looks.{Both, Neither, either, number-shown, read-model}
use Rattle.model.proofs.Laws.Runs.{number_is, decides, decides-short, past_of, story_of, standing-shown, tells-standing, says-standing}

readings-stand : StandsFor readings
unfolding run step
readings-stand p m r f = refl

kinds-stand : (i : FurtherKind) → StandsFor (kind_of i)
kinds-stand list = lists-stand
kinds-stand append = pieces-stand
kinds-stand read_on = readings-stand
kinds-stand table = transfers-stand
kinds-stand journal_info = infos-stand
kinds-stand undo_to = backs-stand

-- a list's count goes up from where it begins
later-done : (cs : List Change) (p : State) (k : ℕ) → (one_by_one p (suc k) cs).done ≡ suc (one_by_one p k cs).done
unfolding one_by_one
later-done [] p k = refl
later-done (c ∷ cs) p k = go (change_refusal p c) (later-done cs (after_change p c) (suc k))
  where
    go : (r : ℕ) → (one_by_one (after_change p c) (suc (suc k)) cs).done ≡ suc (one_by_one (after_change p c) (suc k) cs).done
        → (accept r (one_by_one (after_change p c) (suc (suc k)) cs) (listed p r (suc k))).done ≡ suc (accept r (one_by_one (after_change p c) (suc k) cs) (listed p r k)).done
    go zero h = h
    go (suc r) h = refl

later-number : (cs : List Change) (p : State) (k : ℕ) → (one_by_one p (suc k) cs).number ≡ (one_by_one p k cs).number
unfolding one_by_one
later-number [] p k = refl
later-number (c ∷ cs) p k = go (change_refusal p c) (later-number cs (after_change p c) (suc k))
  where
    go : (r : ℕ) → (one_by_one (after_change p c) (suc (suc k)) cs).number ≡ (one_by_one (after_change p c) (suc k) cs).number
        → (accept r (one_by_one (after_change p c) (suc (suc k)) cs) (listed p r (suc k))).number ≡ (accept r (one_by_one (after_change p c) (suc k) cs) (listed p r k)).number
    go zero h = h
    go (suc r) h = refl

-- the first of some changes, accepted and refused
first_done : (c : Change) (cs : List Change) (p : State) → change_refusal p c ≡ 0 → ((one_by_one p 0 (c ∷ cs)).done ≡ suc (one_by_one (after_change p c) 0 cs).done) × ((one_by_one p 0 (c ∷ cs)).number ≡ (one_by_one (after_change p c) 0 cs).number)
unfolding one_by_one
first_done c cs p r = (rw r (later-done cs (after_change p c) 0), rw r (later-number cs (after_change p c) 0))

first-refused : (c : Change) (cs : List Change) (p : State) (k : ℕ) → change_refusal p c ≡ suc k → ((one_by_one p 0 (c ∷ cs)).done ≡ 0) × ((one_by_one p 0 (c ∷ cs)).number ≡ suc k)
unfolding one_by_one
first-refused c cs p k r = (rw r, rw r)

-- changes that stand, made by calls
made_by : List Change → List Call
made_by [] = []
made_by (c ∷ cs) = made_by cs ++ (change c ∷ [])

made-run : (start : State) (cs : List Change) → run start (made_by cs) ≡ replayed start cs
unfolding run step replayed made_by
made-run start [] = refl
made-run start (c ∷ cs) = run-append (made_by cs) (change c ∷ []) start ∙ ap (λ (p : State). after_change p c) (made-run start cs)

module _ (image : List ℕ) (m : Model) (size : ℕ) (ok : check image ≡ 0) (S : Shows image m) (low : min_journal ≤ size) (high : size ≤ max_journal) where
  abbrev start : State
  start = record { image = image; journal = started size }

  reached : (cs : List Change) → Reached (replayed start cs)
  reached cs = record { from = image; size = size; made = made_by cs; sound = ok; low = low; high = high; is = sym (made-run start cs) }

  -- A LIST
  abbrev Ones : (xs cs : List Change) → Type 0
  Ones xs cs =
      (many (take (one_by_one (replayed start cs) 0 xs).done xs) (story_of m cs) ≡ story_of m (standing start cs (map change (take (one_by_one (replayed start cs) 0 xs).done xs))))
      × OneByOne (story_of m cs) xs (one_by_one (replayed start cs) 0 xs).done (one_by_one (replayed start cs) 0 xs).number

  -- by how many are done, and the number
  abbrev OnesBy : (xs cs : List Change) (done number : ℕ) → Type 0
  OnesBy xs cs done number = (many (take done xs) (story_of m cs) ≡ story_of m (standing start cs (map change (take done xs)))) × OneByOne (story_of m cs) xs done number

  ones_is : (xs cs : List Change) (done number : ℕ) → (one_by_one (replayed start cs) 0 xs).done ≡ done → (one_by_one (replayed start cs) 0 xs).number ≡ number → OnesBy xs cs done number → Ones xs cs
  ones_is xs cs done number p q w =
      subst (λ (n : ℕ). OnesBy xs cs (one_by_one (replayed start cs) 0 xs).done n) (sym q) (subst (λ (d : ℕ). OnesBy xs cs d number) (sym p) w)

  accepted-stands : (x : Change) (cs : List Change) → change_refusal (replayed start cs) x ≡ 0 → standing_after start cs (change x) ≡ x ∷ cs
  unfolding standing_after
  accepted-stands x cs e = rw e

  one_more : (x : Change) (xs cs : List Change) → Stand start cs → change_refusal (replayed start cs) x ≡ 0 → Ones xs (x ∷ cs) → Ones (x ∷ xs) cs
  unfolding many OneByOne standing replayed past_of modelled
  one_more x xs cs t e h =
      let d : ℕ = (one_by_one (replayed start (x ∷ cs)) 0 xs).done in
      let w = first_done x xs (replayed start cs) e in
      ones_is (x ∷ xs) cs (suc (one_by_one (replayed start (x ∷ cs)) 0 xs).done) (one_by_one (replayed start (x ∷ cs)) 0 xs).number w.0 w.1 (
        h.0 ∙ ap (λ (l : List Change). story_of m (standing start l (map change (take (one_by_one (replayed start (x ∷ cs)) 0 xs).done xs)))) (sym (accepted-stands x cs e)),
        (subst (Decided (modelled m cs) x) e (decides image m size ok S low high cs x t), h.1),
      )

  none_more : (x : Change) (xs cs : List Change) → Stand start cs → (k : ℕ) → change_refusal (replayed start cs) x ≡ suc k → Ones (x ∷ xs) cs
  unfolding many OneByOne standing
  none_more x xs cs t k e =
      let w = first-refused x xs (replayed start cs) k e in
      ones_is (x ∷ xs) cs 0 (suc k) w.0 w.1 (refl, (subst (Decided (modelled m cs) x) e (decides image m size ok S low high cs x t), λ z. suc-ne-zero k z))

  one-by-one : (xs cs : List Change) → Stand start cs → Ones xs cs
  unfolding many OneByOne one_by_one standing Stand
  one-by-one [] cs t = (refl, (refl, refl))
  one-by-one (x ∷ xs) cs t = go (change_refusal (replayed start cs) x) refl (λ e. one-by-one xs (x ∷ cs) (e, t))
    where
      go : (k : ℕ) → change_refusal (replayed start cs) x ≡ k → (change_refusal (replayed start cs) x ≡ 0 → Ones xs (x ∷ cs)) → Ones (x ∷ xs) cs
      go zero e h = one_more x xs cs t e (h e)
      go (suc k) e h = none_more x xs cs t k e

  -- on a state of the run a list is weighed by its form alone
  list-form : (cs : List Change) → Stand start cs → (l : List ℕ) → list_refusal (replayed start cs) l ≡ require (list_ok l) 19 0
  unfolding list_refusal
  list-form cs t l = let h = (standing-shown image m size ok S low high cs t).0 in rw (h.sound, h.well-formed)

  list_right : (cs : List Change) (l : List ℕ) → Stand start cs → list_ok l ≡ true → write_list (replayed start cs) l ≡ one_by_one (replayed start cs) 0 (writes l)
  unfolding write_list
  list_right cs l t e = rw (list-form cs t l, e)

  list-broken : (cs : List Change) (l : List ℕ) → Stand start cs → list_ok l ≡ false → write_list (replayed start cs) l ≡ listed (replayed start cs) 19 0
  unfolding write_list
  list-broken cs l t e = rw (list-form cs t l, e)

  list_tells : (cs : List Change) (l : List ℕ) → Stand start cs
      → many (take (write_list (replayed start cs) l).done (writes l)) (story_of m cs) ≡ story_of m (standing start cs (map change (take (write_list (replayed start cs) l).done (writes l))))
  unfolding many standing
  list_tells cs l t = go (true-or-false (list_ok l))
    where
      go : (list_ok l ≡ true) ⊎ (list_ok l ≡ false)
          → many (take (write_list (replayed start cs) l).done (writes l)) (story_of m cs) ≡ story_of m (standing start cs (map change (take (write_list (replayed start cs) l).done (writes l))))
      go (inl e) = rw (list_right cs l t e) (one-by-one (writes l) cs t).0
      go (inr e) = rw (list-broken cs l t e)

  list-says : (cs : List Change) (l : List ℕ) → Stand start cs → ListSays (story_of m cs) l (record { number = (write_list (replayed start cs) l).number; done = (write_list (replayed start cs) l).done })
  list-says cs l t =
      record {
        broken = λ e. let q = list-broken cs l t e in (ap (λ (x : Listed). x.done) q, ap (λ (x : Listed). x.number) q);
        right = λ e. rw (list_right cs l t e) (one-by-one (writes l) cs t).1;
      }

  -- AN APPEND
  end_is : (cs : List Change) → Stand start cs → (path : List ℕ) → file_end (replayed start cs).image path ≡ length (bytes_in ((modelled m cs).at path))
  unfolding file_end
  end_is cs t path = go (either (replayed start cs).image (modelled m cs) (standing-shown image m size ok S low high cs t).1 (standing-shown image m size ok S low high cs t).0.sound path)
    where
      go : Both (replayed start cs).image (modelled m cs) (standing-shown image m size ok S low high cs t).1 (standing-shown image m size ok S low high cs t).0.sound path
          ⊎ Neither (replayed start cs).image (modelled m cs) (standing-shown image m size ok S low high cs t).1 (standing-shown image m size ok S low high cs t).0.sound path
          → accept (file_refusal (replayed start cs).image path) (size_of (replayed start cs).image (entry_of is_file (replayed start cs).image path)) 0 ≡ length (bytes_in ((modelled m cs).at path))
      go (inl B) = rw B.found (sym B.long)
      go (inr N) =
          let q : file_refusal (replayed start cs).image path ≡ suc N.number =
          number-shown (replayed start cs).image (modelled m cs) (standing-shown image m size ok S low high cs t).1 (standing-shown image m size ok S low high cs t).0.sound path ∙ N.none in
          rw (q, N.bytes)

  piece_is : (cs : List Change) → Stand start cs → (p : Piece) (bytes : List ℕ) → piece_write (replayed start cs) p.path bytes p.time ≡ write p.path (length (bytes_in ((modelled m cs).at p.path))) bytes p.time
  unfolding piece_write
  piece_is cs t p bytes = ap (λ (k : ℕ). write p.path k bytes p.time) (end_is cs t p.path)

  append-more : (cs : List Change) → Stand start cs → (p : Piece) (b : ℕ) (bs : List ℕ)
      → appended (story_of m cs) (write p.path (length (bytes_in ((modelled m cs).at p.path))) (b ∷ bs) p.time) (b ∷ bs) (number_of (append_answer (replayed start cs) p.path (b ∷ bs) p.time))
      ≡ story_of m (standing start cs (piece_calls (replayed start cs) p.path (b ∷ bs) p.time))
  unfolding appended piece_calls standing append_answer tells answer
  append-more cs t p b bs =
      let q = piece_is cs t p (b ∷ bs) in
      rw q (tells-standing image m size ok S low high cs (change (write p.path (length (bytes_in ((modelled m cs).at p.path))) (b ∷ bs) p.time)) t)

  append-tells : (cs : List Change) → Stand start cs → (p : Piece) (bytes : List ℕ)
      → appended (story_of m cs) (write p.path (length (bytes_in ((modelled m cs).at p.path))) bytes p.time) bytes (number_of (append_answer (replayed start cs) p.path bytes p.time))
      ≡ story_of m (standing start cs (piece_calls (replayed start cs) p.path bytes p.time))
  unfolding appended piece_calls standing
  append-tells cs t p [] = refl
  append-tells cs t p (b ∷ bs) = append-more cs t p b bs

  append-says : (cs : List Change) → Stand start cs → (p : Piece) (bytes : List ℕ)
      → Decided (modelled m cs) (write p.path (length (bytes_in ((modelled m cs).at p.path))) bytes p.time) (number_of (append_answer (replayed start cs) p.path bytes p.time))
  unfolding append_answer append_refusal
  append-says cs t p [] =
      let h = (standing-shown image m size ok S low high cs t).0 in
      let q = piece_is cs t p [] in
      rw (h.sound, h.well-formed, q) (decides-short image m size ok S low high cs (write p.path (length (bytes_in ((modelled m cs).at p.path))) [] p.time) t)
  append-says cs t p (b ∷ bs) =
      let q = piece_is cs t p (b ∷ bs) in
      rw (q, number_is (replayed start cs) (write p.path (length (bytes_in ((modelled m cs).at p.path))) (b ∷ bs) p.time))
      (decides image m size ok S low high cs (write p.path (length (bytes_in ((modelled m cs).at p.path))) (b ∷ bs) p.time) t)

  -- BACK TO A MARK
  back-tells : (k : ℕ) (cs : List Change) → back_by k (story_of m cs) ≡ story_of m (standing start cs (undos k))
  unfolding back_by standing standing_after past_of modelled
  back-tells zero cs = refl
  back-tells (suc k) [] = back-tells k []
  back-tells (suc k) (c ∷ cs) = back-tells k cs

  back-says : (cs : List Change) → Stand start cs → (mark : ℕ) → (((marked.undo_to (replayed start cs) mark).number ≡ 27) × ((marked.undo_to (replayed start cs) mark).done ≡ 0)) ⊎ ((marked.undo_to (replayed start cs) mark).number ≡ 0)
  unfolding marked.undo_to marked.back_refusal
  back-says cs t mark = let h = (standing-shown image m size ok S low high cs t).0 in rw (h.sound, h.well-formed) (go (has eqb mark (marks (replayed start cs).journal)))
    where
      go : (b : Bool)
          → let k = require b 27 0 in
          (((accept k (marked.backed (marked.back_by (replayed start cs) (behind (replayed start cs).journal mark)) 0 (behind (replayed start cs).journal mark)) (marked.backed (replayed start cs) k 0)).number ≡ 27)
          × ((accept k (marked.backed (marked.back_by (replayed start cs) (behind (replayed start cs).journal mark)) 0 (behind (replayed start cs).journal mark)) (marked.backed (replayed start cs) k 0)).done ≡ 0))
          ⊎ ((accept k (marked.backed (marked.back_by (replayed start cs) (behind (replayed start cs).journal mark)) 0 (behind (replayed start cs).journal mark)) (marked.backed (replayed start cs) k 0)).number ≡ 0)
      go true = inr refl
      go false = inl (refl, refl)

  -- ANY FURTHER CALL
  further-tells : (i : FurtherKind) (cs : List Change) → Stand start cs → (x : (kind_of i).Further)
      → further_tells i (story_of m cs) x ((kind_of i).reply (replayed start cs) x) ≡ story_of m (standing start cs ((kind_of i).calls (replayed start cs) x))
  unfolding further_tells standing standing_after
  further-tells list cs t l = list_tells cs l t
  further-tells append cs t p = append-tells cs t p p.bytes
  further-tells read_on cs t x = refl
  further-tells table cs t x = refl
  further-tells journal_info cs t x = refl
  further-tells undo_to cs t mark = back-tells (marked.undo_to (replayed start cs) mark).done cs

  further-says : (i : FurtherKind) (cs : List Change) → Stand start cs → (x : (kind_of i).Further) → FurtherSays i (story_of m cs) x ((kind_of i).reply (replayed start cs) x)
  unfolding FurtherSays
  further-says list cs t l = list-says cs l t
  further-says append cs t p = append-says cs t p p.bytes
  further-says read_on cs t x =
      let h = standing-shown image m size ok S low high cs t in
      let q = read-model (replayed start cs).image (modelled m cs) h.1 h.0.sound x.path x.position x.buffer in
      (q, ap (λ (a : ReadAnswer). x.position + a.count) q)
  further-says table cs t x = tt
  further-says journal_info cs t x = tt
  further-says undo_to cs t mark = back-says cs t mark

  further-state : (i : FurtherKind) (cs : List Change) → Stand start cs → (x : (kind_of i).Further) → (kind_of i).Fits (replayed start cs) x
      → (kind_of i).after (replayed start cs) x ≡ replayed start (standing start cs ((kind_of i).calls (replayed start cs) x))
  further-state i cs t x f =
      kinds-stand i (replayed start cs) (reached cs) x f
      ∙ (run-after (λ s d a r. change-sound s a d r) image size ok low high cs ((kind_of i).calls (replayed start cs) x) t).0

  -- THE RUN
  abbrev Outcome : State → Story → List AnyCall → Type 0
  Outcome p h calls = Shows (run_of p calls).image (told_all p h calls).now × SaidAll p h calls

  carried : (calls : List AnyCall) (p q : State) (h k : Story) → p ≡ q → h ≡ k → Outcome q k calls → Outcome p h calls
  carried calls p q h k e f w = subst (λ (x : Story). Outcome p x calls) (sym f) (subst (λ (x : State). Outcome x k calls) (sym e) w)

  every : (calls : List AnyCall) (cs : List Change) → Stand start cs → AllFit (replayed start cs) calls → Outcome (replayed start cs) (story_of m cs) calls
  unfolding run_of step_of told_all SaidAll AllFit FitsRun One
  every [] cs t f = ((standing-shown image m size ok S low high cs t).1, tt)
  every (call c ∷ calls) cs t f =
      let o = one-call (λ s d a r. change-sound s a d r) image size ok low high cs c t in
      let h = every calls (standing_after start cs c) o.2 (subst (λ (p : State). AllFit p calls) o.0 f.1) in
      let w = carried calls (step (replayed start cs) c) (replayed start (standing_after start cs c)) (tells (story_of m cs) c (answer (replayed start cs) c)) (story_of m (standing_after start cs c)) o.0
      (tells-standing image m size ok S low high cs c t) h in
      (w.0, (says-standing image m size ok S low high cs c t, w.1))
  every (further x ∷ calls) cs t f =
      let e = further-state x.0 cs t x.1 f.0 in
      let u = (run-after (λ s d a r. change-sound s a d r) image size ok low high cs ((kind_of x.0).calls (replayed start cs) x.1) t).1 in
      let h = every calls (standing start cs ((kind_of x.0).calls (replayed start cs) x.1)) u (subst (λ (p : State). AllFit p calls) e f.1) in
      let w = carried calls ((kind_of x.0).after (replayed start cs) x.1) (replayed start (standing start cs ((kind_of x.0).calls (replayed start cs) x.1)))
      (further_tells x.0 (story_of m cs) x.1 ((kind_of x.0).reply (replayed start cs) x.1)) (story_of m (standing start cs ((kind_of x.0).calls (replayed start cs) x.1))) e
      (further-tells x.0 cs t x.1) h in
      (w.0, (further-says x.0 cs t x.1, w.1))

pub every_call : EveryCallTheorem
unfolding Stand replayed past_of modelled
every_call image m size calls ok S low high f =
    let w = every image m size ok S low high calls [] tt f in
    record { shown = w.0; said = w.1 }
