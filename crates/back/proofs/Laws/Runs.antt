-- Undo to a mark after a run: every mark of a run's own journal is that of a moment of the run, and going back to it gives that moment's image and whole journal.
use Prim.Native.Nat.{ℕ, zero, suc, ◌+◌, ◌-◌, ◌≤◌, ◌<◌}
use mathlib.Core.Path.{◌≡◌, refl, sym, ap, subst, ◌∙◌}
use mathlib.Core.Logic.{◌⊎◌, inl, inr, ⊎_elim, ◌≢◌}
use mathlib.Core.Bool.{true, not}
use mathlib.Core.List.{List, [], ◌∷◌, ◌++◌, map}
use native.Mathlib.Omega.{arith}
use borrow.Author.Tests.{eq-eqb}
use lib.Dec.{eqb}
use lib.ListN.{length, length-append, length-drop}
use Rattle.layout.specs.Limits.{min_journal, max_journal}
use Rattle.layout.specs.Lists.{has, last_or}
use Rattle.layout.specs.Refusals.{accept}
use Rattle.layout.specs.Bytes.{be32}
use Rattle.layout.specs.Geometry.{block_count}
use Rattle.layout.specs.Check.{check}
use Rattle.store.specs.Change.{Change}
use Rattle.store.proofs.Theorems.{change-sound}
use Rattle.store.proofs.Laws.Sound.{KeptSound}
use Rattle.journal.specs.Journal.{used, started, records_from, records, well_formed, last_record, undone_journal}
use Rattle.journal.specs.Run.{Call, change, undo, look, change_refusal, undone, State, state, undo_refusal, after_undo, undo_answer, step, answer, run}
use Rattle.journal.specs.Replay.{replayed, standing, standing_after, replay_answer, RunInvariant}
use Rattle.journal.specs.Kinds.{Kind, KindCall, step_of, run_of, AllFit, standing_of, calls_of, as_calls, Reached, StandsFor}
use Rattle.journal.specs.Back.{undos, TellsRight}
use Rattle.journal.specs.Walks.Changes.{Ready}
use Rattle.layout.proofs.Laws.Tests.{require-zero, first_of-zero, true-not-false}
use Rattle.layout.proofs.Laws.Lists.{In, in-elim, in_left, in-append, has-eqb-in, in-has-eqb, last-in}
use Rattle.journal.proofs.Laws.Shape.{used-filled, started-filled}
use Rattle.journal.proofs.Laws.Append.{WellFormed, well}
use Rattle.journal.proofs.Laws.Runs.{Stand, One, one-call, run-stands}
use Rattle.journal.proofs.Laws.Back.{standing-undos}
use Rattle.journal.proofs.Laws.Kinds.{standing-calls}
use Rattle.journal.proofs.Theorems as theorems
use Rattle.back.specs.Marks.{marks, behind, last_length, InfoAnswer, journal_info}
use Rattle.back.specs.UndoTo.{without_last, back_by, Backed, backed, back_refusal, undo_to, Undoable}
use Rattle.back.specs.Runs.{infos, backs, info_tell, back_tell, InfoRunTheorem, BackRunTheorem, Told, ToldTheorem, ToStartTheorem, ToMarkTheorem, NeverBelow, StillStand, NeverBelowTheorem}
use Rattle.journal.proofs.Laws.Dropped.{dropped}
use Rattle.back.proofs.Laws.Marks.{used-mark, none-behind, one-behind}
use Rattle.back.proofs.Laws.Turns.{back_done, info-ready}

kept-sound : KeptSound
kept-sound s c ok r = change-sound s ok c r

-- an undo that is accepted is the rule without its check
answered-zero : (q : State) (size : ℕ) → undo_answer q ≡ undone 0 size → undo_refusal q ≡ 0
unfolding undo_answer
answered-zero q size = go (undo_refusal q) refl
  where
    go : (r : ℕ) → undo_refusal q ≡ r → undo_answer q ≡ undone 0 size → undo_refusal q ≡ 0
    go zero e h = e
    go (suc r) e h =
        let f : undone (suc r) 0 ≡ undone 0 size = rw e at h in
        let g : ◌≡◌ {A = ℕ} (suc r) 0 = cc in
        absurd (omega arith)

undo-is : (q : State) → undo_refusal q ≡ 0 → after_undo q ≡ without_last q
unfolding after_undo without_last
undo-is q e = rw e

record Given (q : State) : Type 0 where
  ready : Ready q.image q.journal
  some : last_record q.journal ≢ 0

undo-given : (q : State) → undo_refusal q ≡ 0 → Given q
unfolding undo_refusal
undo-given q e =
    let a = first_of-zero (check q.image) _ e in
    let b = require-zero (well_formed q.journal (block_count q.image)) 7 _ a.1 in
    let d = require-zero (not (eqb (last_record q.journal) 0)) 15 0 b.1 in
    record {
      ready = record { sound = a.0; well-formed = b.0 };
      some = λ z. true-not-false d.0 (rw (eq-eqb (last_record q.journal) 0 z));
    }

-- on any image and journal, where single undos are accepted, as many of them are the rule so many times
pub back-undos : (k : ℕ) (p : State) → Undoable p k → back_by p k ≡ run p (undos k)
unfolding back_by Undoable run step
back-undos zero p u = refl
back-undos (suc k) p u = ap (λ (q : State). back_by q k) (sym (undo-is p u.0)) ∙ back-undos k (after_undo p) u.1

some_in : (j : List ℕ) → last_record j ≢ 0 → In (last_record j) (records j)
unfolding last_record
some_in j h = ⊎_elim (λ e. absurd (h e)) (λ m. m) (last-in (records j) 0)

-- the last of a list, mapped
last-map : (f : ℕ → ℕ) (xs : List ℕ) (x : ℕ) → last_or (f x) (map f xs) ≡ f (last_or x xs)
last-map f [] x = refl
last-map f (y ∷ ys) x = last-map f ys y

last-mapped : (f : ℕ → ℕ) (xs : List ℕ) (x : ℕ) → In x xs → last_or 0 (map f xs) ≡ f (last_or 0 xs)
last-mapped f [] x m = absurd m
last-mapped f (y ∷ ys) x m = last-map f ys y

-- the length that an info tells is what the next undo answers
pub undo-told : (p : State) → undo_refusal p ≡ 0 → undo_answer p ≡ undone 0 (journal_info p).last
unfolding undo_answer last_length last_record
undo-told p e =
    let g = undo-given p e in
    let i = info-ready p g.ready _ _ _ refl refl refl in
    let l : (journal_info p).last ≡ be32 p.journal (last_record p.journal) =
    ap (λ (a : InfoAnswer). a.last) (sym i) ∙ last-mapped (be32 p.journal) (records p.journal) (last_record p.journal) (some_in p.journal g.some) in
    rw (e, l)

-- a journal q that is p with one record more
record Grown (p q : List ℕ) : Type 0 where
  blocks : ℕ
  whole : WellFormed q blocks
  taken : undone_journal q ≡ p
  records-are : records q ≡ marks p
  more : used p < used q

grown : (q : State) (p : List ℕ) → Given q → undone_journal q.journal ≡ p → Grown p q.journal
unfolding marks
grown q p g e =
    let n = block_count q.image in
    let w = well q.journal n g.ready.well-formed in
    let d = dropped n q.journal w (last_record q.journal) (some_in q.journal g.some) in
    let u : used p ≡ last_record q.journal = ap used (sym e) ∙ d.used-is in
    record {
      blocks = n;
      whole = w;
      taken = e;
      records-are = d.records-are ∙ ap (λ (x : List ℕ). records x ++ (last_record q.journal ∷ [])) e ∙ ap (λ (x : ℕ). records p ++ (x ∷ [])) (sym u);
      more = omega (arith, u, d.below);
    }

accepted-mark : (q : State) (mark : ℕ) → back_refusal q mark ≡ 0 → has eqb mark (marks q.journal) ≡ true
unfolding back_refusal
accepted-mark q mark e =
    let a = first_of-zero (check q.image) _ e in
    let b = require-zero (well_formed q.journal (block_count q.image)) 7 _ a.1 in
    (require-zero (has eqb mark (marks q.journal)) 26 0 b.1).0

-- from a sound image and a journal just started
module _ (image : List ℕ) (size : ℕ) (ok : check image ≡ 0) (low : min_journal ≤ size) (high : size ≤ max_journal) where
  abbrev start : State
  start = record { image = image; journal = started size }

  pub used_start : used (started size) ≡ 5
  used_start = rw started-filled (used-filled 5 [] (size - 5) (omega arith))

  records-start : records (started size) ≡ []
  unfolding records records_from
  records-start = rw used_start

  -- the last change that stands: undo, with its check or without, gives what was there before it
  record Undone (c : Change) (cs : List Change) : Type 0 where
    checked : after_undo (replayed start (c ∷ cs)) ≡ replayed start cs
    plain : without_last (replayed start (c ∷ cs)) ≡ replayed start cs
    given : Given (replayed start (c ∷ cs))
    rest : Stand start cs

  one-back : (c : Change) (cs : List Change) → Stand start (c ∷ cs) → Undone c cs
  unfolding One step answer standing_after replay_answer
  one-back c cs t =
      let o = one-call kept-sound image size ok low high (c ∷ cs) undo t in
      let z = answered-zero (replayed start (c ∷ cs)) _ o.1 in
      record { checked = o.0; plain = sym (undo-is (replayed start (c ∷ cs)) z) ∙ o.0; given = undo-given (replayed start (c ∷ cs)) z; rest = o.2 }

  one-grown : (c : Change) (cs : List Change) → Stand start (c ∷ cs) → Grown (replayed start cs).journal (replayed start (c ∷ cs)).journal
  unfolding without_last
  one-grown c cs t =
      let u = one-back c cs t in
      grown (replayed start (c ∷ cs)) (replayed start cs).journal u.given (ap (λ (p : State). p.journal) u.plain)

  ready-start : Ready image (started size)
  unfolding run
  ready-start = let k : RunInvariant (block_count image) size start = theorems.run-keeps image size [] ok low high in record { sound = k.sound; well-formed = k.well-formed }

  pub ready-stand : (cs : List Change) → Stand start cs → Ready (replayed start cs).image (replayed start cs).journal
  unfolding replayed
  ready-stand [] t = ready-start
  ready-stand (c ∷ cs) t = (one-back c cs t).given.ready

  -- as many records as changes stand
  pub records-stand : (cs : List Change) → Stand start cs → length (records (replayed start cs).journal) ≡ length cs
  unfolding replayed marks
  records-stand [] t = ap (λ (xs : List ℕ). length xs) records-start
  records-stand (c ∷ cs) t =
      let u = one-back c cs t in
      let p = (replayed start cs).journal in
      let e : length (records (replayed start (c ∷ cs)).journal) ≡ length (records p) + 1 =
      ap (λ (xs : List ℕ). length xs) (one-grown c cs t).records-are ∙ length-append (records p) (used p ∷ []) in
      e ∙ ap (λ (k : ℕ). k + 1) (records-stand cs u.rest) ∙ omega arith

  -- a moment, and what stands since: its mark is one, and as many records are behind it
  record Moment (later cs : List Change) : Type 0 where
    is-mark : has eqb (used (replayed start cs).journal) (marks (replayed start (later ++ cs)).journal) ≡ true
    count : behind (replayed start (later ++ cs)).journal (used (replayed start cs).journal) ≡ length later

  moment : (later cs : List Change) → Stand start (later ++ cs) → Moment later cs
  unfolding marks
  moment [] cs t = record { is-mark = used-mark (replayed start cs).journal; count = none-behind (replayed start cs).journal _ (omega arith) }
  moment (c ∷ later) cs t =
      let u = one-back c (later ++ cs) t in
      let g = one-grown c (later ++ cs) t in
      let i = moment later cs u.rest in
      let q = (replayed start (c ∷ (later ++ cs))).journal in
      let m = used (replayed start cs).journal in
      let h : In m (records q) = rw g.records-are (has-eqb-in m (marks (replayed start (later ++ cs)).journal) i.is-mark) in
      record {
        is-mark = in-has-eqb m (marks q) (in_left m (records q) (used q ∷ []) h);
        count = one-behind g.blocks q g.whole m h ∙ ap (λ (x : List ℕ). suc (behind x m)) g.taken ∙ ap suc i.count;
      }

  -- as many records taken back, and as many undos, give the moment
  back-later : (later cs : List Change) → Stand start (later ++ cs) → back_by (replayed start (later ++ cs)) (length later) ≡ replayed start cs
  unfolding back_by
  back-later [] cs t = refl
  back-later (c ∷ later) cs t =
      let u = one-back c (later ++ cs) t in
      ap (λ (p : State). back_by p (length later)) u.plain ∙ back-later later cs u.rest

  pub run-later : (later cs : List Change) → Stand start (later ++ cs) → run (replayed start (later ++ cs)) (undos (length later)) ≡ replayed start cs
  unfolding run step
  run-later [] cs t = refl
  run-later (c ∷ later) cs t =
      let u = one-back c (later ++ cs) t in
      ap (λ (p : State). run p (undos (length later))) u.checked ∙ run-later later cs u.rest

  -- BACK TO A MOMENT, by the changes that stand
  pub to-moment : (later cs : List Change) → Stand start (later ++ cs)
      → undo_to (replayed start (later ++ cs)) (used (replayed start cs).journal) ≡ backed (replayed start cs) 0 (length later)
  to-moment later cs t =
      let q = replayed start (later ++ cs) in
      let m = moment later cs t in
      sym (back_done q (used (replayed start cs).journal) (ready-stand (later ++ cs) t) m.is-mark)
      ∙ ap (λ (k : ℕ). backed (back_by q k) 0 k) m.count ∙ ap (λ (p : State). backed p 0 (length later)) (back-later later cs t)

  -- every mark is that of a moment
  pub record Split (all : List Change) (mark : ℕ) : Type 0 where
    pub later : List Change
    pub first : List Change
    pub whole : all ≡ later ++ first
    pub mark-is : mark ≡ used (replayed start first).journal

  mark-cases : (j : List ℕ) (mark : ℕ) → has eqb mark (marks j) ≡ true → (In mark (records j)) ⊎ (mark ≡ used j)
  unfolding marks
  mark-cases j mark t =
      ⊎_elim (λ m. inl m) (λ m. in-elim mark (used j) [] m (λ e. inr e) (λ z. absurd z))
      (in-append mark (records j) (used j ∷ []) (has-eqb-in mark (records j ++ (used j ∷ [])) t))

  pub mark-moment : (cs : List Change) (mark : ℕ) → Stand start cs → has eqb mark (marks (replayed start cs).journal) ≡ true → Split cs mark
  unfolding replayed
  mark-moment [] mark t h = go (mark-cases (started size) mark h)
    where
      go : In mark (records (started size)) ⊎ (mark ≡ used (started size)) → Split [] mark
      go (inl m) = absurd (rw records-start at m)
      go (inr e) = record { later = []; first = []; whole = refl; mark-is = e }
  mark-moment (c ∷ cs) mark t h = go (mark-cases (replayed start (c ∷ cs)).journal mark h) (mark-moment cs mark (one-back c cs t).rest)
    where
      go : In mark (records (replayed start (c ∷ cs)).journal) ⊎ (mark ≡ used (replayed start (c ∷ cs)).journal)
          → (has eqb mark (marks (replayed start cs).journal) ≡ true → Split cs mark) → Split (c ∷ cs) mark
      go (inl m) rest =
          let r = rest (in-has-eqb mark (marks (replayed start cs).journal) (rw (one-grown c cs t).records-are at m)) in
          record { later = c ∷ r.later; first = r.first; whole = ap (λ (x : List Change). c ∷ x) r.whole; mark-is = r.mark-is }
      go (inr e) rest = record { later = []; first = c ∷ cs; whole = refl; mark-is = e }

  -- ON A RUN'S OWN JOURNAL undo to a mark is single undos, as many as it says
  back-stand : (cs : List Change) (mark : ℕ) → Stand start cs → (undo_to (replayed start cs) mark).state ≡ run (replayed start cs) (undos (undo_to (replayed start cs) mark).done)
  unfolding undo_to run
  back-stand cs mark t = go (back_refusal (replayed start cs) mark) refl
    where
      at-moment : (s : Split cs mark) → (undo_to (replayed start cs) mark).state ≡ run (replayed start cs) (undos (undo_to (replayed start cs) mark).done)
      at-moment s =
          let t' : Stand start (s.later ++ s.first) = subst (λ (x : List Change). Stand start x) s.whole t in
          let e : undo_to (replayed start cs) mark ≡ backed (replayed start s.first) 0 (length s.later) =
          ap (λ (x : List Change). undo_to (replayed start x) mark) s.whole
          ∙ ap (λ (x : ℕ). undo_to (replayed start (s.later ++ s.first)) x) s.mark-is ∙ to-moment s.later s.first t' in
          ap (λ (b : Backed). b.state) e
          ∙ sym (run-later s.later s.first t') ∙ ap (λ (x : List Change). run (replayed start x) (undos (length s.later))) (sym s.whole)
          ∙ ap (λ (b : Backed). run (replayed start cs) (undos b.done)) (sym e)

      go : (r : ℕ) → back_refusal (replayed start cs) mark ≡ r → (undo_to (replayed start cs) mark).state ≡ run (replayed start cs) (undos (undo_to (replayed start cs) mark).done)
      go zero e = at-moment (mark-moment cs mark t (accepted-mark (replayed start cs) mark e))
      go (suc r) e = rw e

-- the kinds
pub infos-stand : StandsFor infos
unfolding run
infos-stand p m c f = refl

-- ONE CALL OR SINGLE UNDOS: on every state that a run reaches
pub back-run : (p : State) → Reached p → (mark : ℕ) → (undo_to p mark).state ≡ run p (undos (undo_to p mark).done)
back-run p m mark =
    let from : State = state m.from (started m.size) in
    let e : p ≡ replayed from (standing from [] m.made) = m.is ∙ (theorems.every-run m.from m.size m.made m.sound m.low m.high).state in
    subst (λ (q : State). (undo_to q mark).state ≡ run q (undos (undo_to q mark).done)) (sym e)
    (back-stand m.from m.size m.sound m.low m.high (standing from [] m.made) mark
    (run-stands kept-sound m.from m.size m.made m.sound m.low m.high))

pub backs-stand : StandsFor backs
backs-stand p m mark f = back-run p m mark

pub every-info-run : InfoRunTheorem
every-info-run = theorems.every-free-run infos infos-stand (λ p c. tt)

pub every-back-run : BackRunTheorem
every-back-run = theorems.every-free-run backs backs-stand (λ p mark. tt)

-- back to the start and to a moment, after runs of any kind
fit-left : {K : Kind} (xs ys : List (KindCall K)) (p : State) → AllFit p (xs ++ ys) → AllFit p xs
unfolding AllFit
fit-left [] ys p f = tt
fit-left (x ∷ xs) ys p f = (f.0, fit-left xs ys (step_of p x) f.1)

append-none : (cs : List Change) → cs ++ [] ≡ cs
append-none [] = refl
append-none (c ∷ cs) = ap (λ (x : List Change). c ∷ x) (append-none cs)

module _ (K : Kind) (stands : StandsFor K) (image : List ℕ) (size : ℕ) (ok : check image ≡ 0) (low : min_journal ≤ size) (high : size ≤ max_journal) where
  abbrev begun : State
  begun = record { image = image; journal = started size }

  stand_of : (calls : List (KindCall K)) → AllFit begun calls → Stand begun (standing_of begun [] calls)
  unfolding Stand replayed
  stand_of calls f =
      subst (λ (x : List Change). Stand begun x) (sym (standing-calls K stands kept-sound image size ok low high calls [] tt f))
      (run-stands kept-sound image size (as_calls begun calls) ok low high)

  states : (calls : List (KindCall K)) → AllFit begun calls → run_of begun calls ≡ replayed begun (standing_of begun [] calls)
  states calls f = (theorems.every-kind-run K stands image size calls ok low high f).state

  pub told : (calls : List (KindCall K)) → AllFit begun calls → Told begun calls
  told calls f =
      let cs = standing_of begun [] calls in
      let t = stand_of calls f in
      let i = info-ready (replayed begun cs) (ready-stand image size ok low high cs t) _ _ _ refl refl refl in
      let e : journal_info (run_of begun calls) ≡ journal_info (replayed begun cs) = ap journal_info (states calls f) in
      record {
        accepted = ap (λ (a : InfoAnswer). a.number) (e ∙ sym i);
        counted = ap (λ (a : InfoAnswer). a.records) (e ∙ sym i) ∙ records-stand image size ok low high cs t;
      }

  pub to_start : (calls : List (KindCall K)) → AllFit begun calls → undo_to (run_of begun calls) 5 ≡ backed begun 0 (length (standing_of begun [] calls))
  unfolding replayed
  to_start calls f =
      let cs = standing_of begun [] calls in
      let e : cs ++ [] ≡ cs = append-none cs in
      let t : Stand begun (cs ++ []) = subst (λ (x : List Change). Stand begun x) (sym e) (stand_of calls f) in
      ap (λ (p : State). undo_to p 5) (states calls f)
      ∙ ap (λ (x : List Change). undo_to (replayed begun x) 5) (sym e)
      ∙ ap (λ (k : ℕ). undo_to (replayed begun (cs ++ [])) k) (sym (used_start image size ok low high))
      ∙ to-moment image size ok low high cs [] t

  pub to-mark : (before since : List (KindCall K)) → AllFit begun (before ++ since)
      → (later : List Change) → standing_of begun [] (before ++ since) ≡ later ++ standing_of begun [] before
      → undo_to (run_of begun (before ++ since)) (journal_info (run_of begun before)).used ≡ backed (run_of begun before) 0 (length later)
  to-mark before since f later e =
      let cs = standing_of begun [] before in
      let b : run_of begun before ≡ replayed begun cs = states before (fit-left before since begun f) in
      let t : Stand begun (later ++ cs) = subst (λ (x : List Change). Stand begun x) e (stand_of (before ++ since) f) in
      let r = ready-stand image size ok low high cs (stand_of before (fit-left before since begun f)) in
      let i = info-ready (replayed begun cs) r _ _ _ refl refl refl in
      let u : (journal_info (run_of begun before)).used ≡ used (replayed begun cs).journal = ap (λ (p : State). (journal_info p).used) b ∙ ap (λ (a : InfoAnswer). a.used) (sym i) in
      ap (λ (p : State). undo_to p (journal_info (run_of begun before)).used) (states (before ++ since) f ∙ ap (replayed begun) e)
      ∙ ap (λ (k : ℕ). undo_to (replayed begun (later ++ cs)) k) u
      ∙ to-moment image size ok low high later cs t
      ∙ ap (λ (p : State). backed p 0 (length later)) (sym b)

pub all_told : (K : Kind) → StandsFor K → ToldTheorem K
all_told K stands image size calls ok low high f = told K stands image size ok low high calls f

pub start-again : (K : Kind) → StandsFor K → ToStartTheorem K
start-again K stands image size calls ok low high f = to_start K stands image size ok low high calls f

pub moment-again : (K : Kind) → StandsFor K → ToMarkTheorem K
moment-again K stands image size before since ok low high f later e = to-mark K stands image size ok low high before since f later e

-- where no undo goes below what stood, it still stands
module _ (start : State) (cs : List Change) where
  abbrev Kept : List Change → Type 0
  Kept xs = (later : List Change) × (xs ≡ later ++ cs)

  one_kept : (later : List Change) (c : Call) → length cs ≤ length (standing_after start (later ++ cs) c) → Kept (standing_after start (later ++ cs) c)
  unfolding standing_after
  one_kept later (change c) h = go (change_refusal (replayed start (later ++ cs)) c)
    where
      go : (r : ℕ) → Kept (accept r (c ∷ (later ++ cs)) (later ++ cs))
      go zero = (c ∷ later, refl)
      go (suc r) = (later, refl)
  one_kept (c ∷ later) undo h = (later, refl)
  one_kept [] undo h = go cs refl h
    where
      go : (xs : List Change) → xs ≡ cs → length cs ≤ length (standing_after start xs undo) → Kept (standing_after start cs undo)
      go [] e g = ([], subst (λ (x : List Change). standing_after start x undo ≡ x) e refl)
      go (x ∷ xs) e g = absurd (let l : length cs ≡ suc (length xs) = ap length (sym e) in omega arith)
  one_kept later (look l) h = (later, refl)

  all-kept : (calls : List Call) (later : List Change) → NeverBelow start (length cs) (later ++ cs) calls → Kept (standing start (later ++ cs) calls)
  unfolding NeverBelow standing
  all-kept [] later n = (later, refl)
  all-kept (c ∷ calls) later n =
      let k = one_kept later c n.0 in
      let m : NeverBelow start (length cs) (k.0 ++ cs) calls = subst (λ (x : List Change). NeverBelow start (length cs) x calls) k.1 n.1 in
      let r = all-kept calls k.0 m in
      (r.0, ap (λ (x : List Change). standing start x calls) k.1 ∙ r.1)

  pub still-stand : (calls : List Call) → NeverBelow start (length cs) cs calls → StillStand start cs calls
  still-stand calls n = let k = all-kept calls [] n in record { later = k.0; whole = k.1 }

-- the same over runs of any kind, as calls alone
fit-right : {K : Kind} (xs ys : List (KindCall K)) (p : State) → AllFit p (xs ++ ys) → AllFit (run_of p xs) ys
unfolding AllFit run_of
fit-right [] ys p f = f
fit-right (x ∷ xs) ys p f = fit-right xs ys (step_of p x) f.1

standing-since : {K : Kind} (start : State) (xs ys : List (KindCall K)) (cs : List Change) → standing_of start cs (xs ++ ys) ≡ standing_of start (standing_of start cs xs) ys
unfolding standing_of
standing-since start [] ys cs = refl
standing-since start (x ∷ xs) ys cs = standing-since start xs ys (standing start cs (calls_of (replayed start cs) x))

pub never-below : (K : Kind) → StandsFor K → NeverBelowTheorem K
never-below K stands image size before since ok low high f n =
    let start : State = record { image = image; journal = started size } in
    let cs = standing_of start [] before in
    let left = fit-left before since start f in
    let b : run_of start before ≡ replayed start cs = states K stands image size ok low high before left in
    let r : AllFit (replayed start cs) since = subst (λ (p : State). AllFit p since) b (fit-right before since start f) in
    let s = still-stand start cs (as_calls (replayed start cs) since) (subst (λ (p : State). NeverBelow start (length cs) cs (as_calls p since)) b n) in
    let e : standing_of start [] (before ++ since) ≡ s.later ++ cs =
    standing-since start before since []
    ∙ standing-calls K stands kept-sound image size ok low high since cs (stand_of K stands image size ok low high before left) r
    ∙ s.whole in
    (length s.later, moment-again K stands image size before since ok low high f s.later e)

-- the count by the answers
pub infos-told : TellsRight infos info_tell
unfolding standing
infos-told start changes c = refl

pub backs-told : TellsRight backs back_tell
backs-told start changes mark =
    let d = (undo_to (replayed start changes) mark).done in
    sym (ap (λ (l : List Change). length l) (standing-undos start d changes) ∙ length-drop d changes)
