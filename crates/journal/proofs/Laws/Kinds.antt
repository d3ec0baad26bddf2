-- The theorem over runs with further calls (demand 3), of any kind whose calls leave what the calls that they are leave.
use Prim.Native.Nat.{ℕ, ◌≤◌}
use mathlib.Core.List.{List, [], ◌∷◌, ◌++◌}
use lib.ListN.{length}
use mathlib.Core.Path.{◌≡◌, refl, sym, ap, subst, ◌∙◌}
use Rattle.layout.specs.Limits.{min_journal, max_journal}
use Rattle.layout.specs.Check.{check}
use Rattle.store.specs.Change.{Change}
use Rattle.store.proofs.Laws.Sound.{KeptSound}
use Rattle.journal.specs.Journal.{started}
use Rattle.journal.specs.Run.{Call, change, undo, State, state, step, answer, run, answers as run-answers}
use Rattle.journal.specs.Replay.{replayed, standing_after, standing}
use Rattle.journal.specs.Kinds.{Kind, KindCall, call, further, KindAnswer, answered, step_of, answer_of, run_of, answers_of, FitsRun, AllFit, calls_of, as_calls, standing_of, replay_answer_of, replay_answers_of, Reached, StandsFor, KindRunTheorem, FreeRunTheorem, one_of}
use Rattle.journal.specs.Back.{undos, KindBackTheorem, Tell, count_of, TellsRight, KindCountTheorem}
use Rattle.journal.proofs.Laws.Runs.{Stand, One, one-call, run-after}
use Rattle.journal.proofs.Laws.Back.{standing-append, count-call, back-to-start}

-- a run of two lists of calls
pub run-append : (xs ys : List Call) (p : State) → run p (xs ++ ys) ≡ run (run p xs) ys
unfolding run
run-append [] ys p = refl
run-append (x ∷ xs) ys p = run-append xs ys (step p x)

-- the states that runs reach: after some calls more, and by changes
pub reached-run : (p : State) (cs : List Call) → Reached p → Reached (run p cs)
reached-run p cs m = record {
  from = m.from;
  size = m.size;
  made = m.made ++ cs;
  sound = m.sound;
  low = m.low;
  high = m.high;
  is = ap (λ (q : State). run q cs) m.is ∙ sym (run-append m.made cs (state m.from (started m.size)));
}

pub reached-changes : (start : State) → Reached start → (changes : List Change) → Reached (replayed start changes)
unfolding replayed run step
reached-changes start m [] = m
reached-changes start m (c ∷ cs) = reached-run (replayed start cs) (change c ∷ []) (reached-changes start m cs)

-- several kinds as one
pub one-of : {I : Type 0} (kinds : I → Kind) → ((i : I) → StandsFor (kinds i)) → StandsFor (one_of kinds)
one-of kinds stands p m c f = stands c.0 p m c.1 f

module _ (K : Kind) (stands : StandsFor K) where
  step-calls : (p : State) → Reached p → (c : KindCall K) → FitsRun p c → step_of p c ≡ run p (calls_of p c)
  unfolding step_of calls_of FitsRun run
  step-calls p m (call c) f = refl
  step-calls p m (further c) f = stands p m c f

  -- on a state that a run reaches, a run is the same run as calls alone
  pub calls-run : (cs : List (KindCall K)) (p : State) → Reached p → AllFit p cs → run_of p cs ≡ run p (as_calls p cs)
  unfolding run_of as_calls AllFit run
  calls-run [] p m f = refl
  calls-run (c ∷ cs) p m f =
      calls-run cs (step_of p c) (subst Reached (sym (step-calls p m c f.0)) (reached-run p (calls_of p c) m)) f.1
      ∙ ap (λ (q : State). run q (as_calls (step_of p c) cs)) (step-calls p m c f.0)
      ∙ sym (run-append (calls_of p c) (as_calls (step_of p c) cs) p)

  module _ (sound : KeptSound) (image : List ℕ) (size : ℕ) (ok : check image ≡ 0) (low : min_journal ≤ size) (high : size ≤ max_journal) where
    abbrev start : State
    start = record { image = image; journal = started size }

    pub reached-start : Reached start
    unfolding run
    reached-start = record { from = image; size = size; made = []; sound = ok; low = low; high = high; is = refl }

    -- the changes that stand after a call
    abbrev next : List Change → KindCall K → List Change
    next changes c = standing start changes (calls_of (replayed start changes) c)

    -- one call: the state follows the replay, and the changes still stand
    moves : (changes : List Change) (c : KindCall K) → Stand start changes → FitsRun (replayed start changes) c
        → (step_of (replayed start changes) c ≡ replayed start (next changes c)) × Stand start (next changes c)
    moves changes c t f =
        let r = run-after sound image size ok low high changes (calls_of (replayed start changes) c) t in
        (step-calls (replayed start changes) (reached-changes start reached-start changes) c f ∙ r.0, r.1)

    replies : (changes : List Change) (c : KindCall K) → Stand start changes → answer_of (replayed start changes) c ≡ replay_answer_of start changes c
    unfolding answer_of replay_answer_of One
    replies changes (call c) t = ap answered (one-call sound image size ok low high changes c t).1
    replies changes (further c) t = refl

    -- what stands is what stands of the same run as calls alone
    pub standing-calls : (cs : List (KindCall K)) (changes : List Change) → Stand start changes → AllFit (replayed start changes) cs
        → standing_of start changes cs ≡ standing start changes (as_calls (replayed start changes) cs)
    unfolding standing_of standing as_calls AllFit
    standing-calls [] changes t f = refl
    standing-calls (c ∷ cs) changes t f =
        let m = moves changes c t f.0 in
        let p = replayed start changes in
        standing-calls cs (next changes c) m.1 (subst (λ (q : State). AllFit q cs) m.0 f.1)
        ∙ ap (λ (q : State). standing start (next changes c) (as_calls q cs)) (sym m.0)
        ∙ sym (standing-append start changes (calls_of p c) (as_calls (step_of p c) cs))

    states : (cs : List (KindCall K)) (changes : List Change) → Stand start changes → AllFit (replayed start changes) cs
        → run_of (replayed start changes) cs ≡ replayed start (standing_of start changes cs)
    unfolding run_of standing_of AllFit
    states [] changes t f = refl
    states (c ∷ cs) changes t f =
        let m = moves changes c t f.0 in
        ap (λ (p : State). run_of p cs) m.0 ∙ states cs (next changes c) m.1 (subst (λ (p : State). AllFit p cs) m.0 f.1)

    answers : (cs : List (KindCall K)) (changes : List Change) → Stand start changes → AllFit (replayed start changes) cs
        → answers_of (replayed start changes) cs ≡ replay_answers_of start changes cs
    unfolding answers_of replay_answers_of AllFit
    answers [] changes t f = refl
    answers (c ∷ cs) changes t f =
        let m = moves changes c t f.0 in
        rw (m.0, replies changes c t)
        (ap (λ (l : List (KindAnswer K)). replay_answer_of start changes c ∷ l) (answers cs (next changes c) m.1 (subst (λ (p : State). AllFit p cs) m.0 f.1)))

-- EVERY RUN WITH FURTHER CALLS is the run as calls alone, and its replay
pub kind-run : KeptSound → (K : Kind) → StandsFor K → KindRunTheorem K
unfolding replayed Stand
kind-run sound K stands image size calls ok low high f =
    let start : State = record { image = image; journal = started size } in
    record {
      as-calls = calls-run K stands calls start (reached-start K stands sound image size ok low high) f;
      state = states K stands sound image size ok low high calls [] tt f;
      answered = answers K stands sound image size ok low high calls [] tt f;
    }

all_fit : (K : Kind) → ((p : State) (c : K.Further) → K.Fits p c) → (cs : List (KindCall K)) (p : State) → AllFit p cs
unfolding AllFit FitsRun
all_fit K fits [] p = tt
all_fit K fits (call c ∷ cs) p = (tt, all_fit K fits cs (step_of p (call c)))
all_fit K fits (further c ∷ cs) p = (fits p c, all_fit K fits cs (step_of p (further c)))

-- where no further call ends a run, nothing is asked of the calls
pub free-run : KeptSound → (K : Kind) → StandsFor K → ((p : State) (c : K.Further) → K.Fits p c) → FreeRunTheorem K
free-run sound K stands fits image size calls ok low high = kind-run sound K stands image size calls ok low high (all_fit K fits calls _)

-- undos after such a run are undos after the run as calls alone
pub kind-back : KeptSound → (K : Kind) → StandsFor K → KindBackTheorem K
unfolding replayed Stand
kind-back sound K stands image size calls ok low high f =
    let start : State = record { image = image; journal = started size } in
    let cs = as_calls start calls in
    let b = back-to-start sound image size cs ok low high in
    let m = reached-start K stands sound image size ok low high in
    let e : standing_of start [] calls ≡ standing start [] cs = standing-calls K stands sound image size ok low high calls [] tt f in
    let go : (k : ℕ) → run (run_of start calls) (undos k) ≡ run start (cs ++ undos k) =
    λ k. ap (λ (p : State). run p (undos k)) (calls-run K stands calls start m f) ∙ sym (run-append cs (undos k) start) in
    record {
      part = λ k. rw e (go k ∙ b.part k);
      whole = rw e (go (length (standing start [] cs)) ∙ b.whole);
      answered = rw e (ap (λ (p : State). run-answers p (undos (length (standing start [] cs)))) (calls-run K stands calls start m f) ∙ b.answered);
      refused = rw e (ap (λ (p : State). answer p undo) (go (length (standing start [] cs))) ∙ b.refused);
    }

-- THE COUNT by the answers is the number of changes that stand
count-kind : (K : Kind) (tell : Tell K) → TellsRight K tell → (start : State) (cs : List (KindCall K)) (changes : List Change)
    → count_of tell (length changes) (replay_answers_of start changes cs) ≡ length (standing_of start changes cs)
unfolding count_of replay_answers_of replay_answer_of standing_of calls_of standing
count-kind K tell right start [] changes = refl
count-kind K tell right start (call c ∷ cs) changes =
    let next = standing_after start changes c in
    ap (λ (k : ℕ). count_of tell k (replay_answers_of start next cs)) (count-call start changes c) ∙ count-kind K tell right start cs next
count-kind K tell right start (further c ∷ cs) changes =
    let next = standing start changes (K.calls (replayed start changes) c) in
    ap (λ (k : ℕ). count_of tell k (replay_answers_of start next cs)) (right start changes c) ∙ count-kind K tell right start cs next

pub kind-counted : KeptSound → (K : Kind) → StandsFor K → (tell : Tell K) → TellsRight K tell → KindCountTheorem K tell
kind-counted sound K stands tell right image size calls ok low high f =
    let start : State = record { image = image; journal = started size } in
    let r = kind-run sound K stands image size calls ok low high f in
    ap (λ (k : ℕ). run (run_of start calls) (undos k)) (ap (λ (l : List (KindAnswer K)). count_of tell 0 l) r.answered ∙ count-kind K tell right start calls [])
    ∙ (kind-back sound K stands image size calls ok low high f).whole

-- several kinds as one
pub one-tells : {I : Type 0} (kinds : I → Kind) (tells : (i : I) → Tell (kinds i)) → ((i : I) → TellsRight (kinds i) (tells i))
    → TellsRight (one_of kinds) (λ k r. tells r.0 k r.1)
one-tells kinds tells right start changes c = right c.0 start changes c.1
