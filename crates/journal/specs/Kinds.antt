-- Runs with further calls (FORMAT.md, 11). On a state a further call is some calls of `Run`: a list of writes "is the writes that it does", a call that only looks is
-- none. A kind of further calls says which; what follows says of the runs of any kind what Run and Replay say of calls alone.
use Rattle.std.specs.Prelude.{ℕ, ◌≤◌, List, [], ◌∷◌, ◌++◌, ◌≡◌}
use Rattle.layout.specs.Limits.{min_journal, max_journal}
use Rattle.layout.specs.Check.{check}
use Rattle.store.specs.Change.{Change}
use Rattle.journal.specs.Journal.{started}
use Rattle.journal.specs.Run.{Call, Answer, State, state, step, answer, run}
use Rattle.journal.specs.Replay.{replayed, standing, replay_answer}

-- What a further call brings and what it answers; by the rules, the state after it and its answer; the calls that it is; and when it does not end the run.
pub record Kind : Type 1 where
  pub Further : Type 0
  pub Reply : Type 0
  pub after : State → Further → State
  pub reply : State → Further → Reply
  pub calls : State → Further → List Call
  pub Fits : State → Further → Type 0

-- a call of `Run`, or a further one; and the answers
pub data KindCall (K : Kind) : Type 0 where
  call : Call → KindCall K
  further : K.Further → KindCall K

pub data KindAnswer (K : Kind) : Type 0 where
  answered : Answer → KindAnswer K
  replied : K.Reply → KindAnswer K

-- by the rules, call by call
unfoldable pub step_of : {K : Kind} → State → KindCall K → State
step_of p (call c) = step p c
step_of {K} p (further c) = K.after p c

unfoldable pub answer_of : {K : Kind} → State → KindCall K → KindAnswer K
answer_of p (call c) = answered (answer p c)
answer_of {K} p (further c) = replied (K.reply p c)

unfoldable pub run_of : {K : Kind} → State → List (KindCall K) → State
run_of p [] = p
run_of p (c ∷ cs) = run_of (step_of p c) cs

unfoldable pub answers_of : {K : Kind} → State → List (KindCall K) → List (KindAnswer K)
answers_of p [] = []
answers_of p (c ∷ cs) = answer_of p c ∷ answers_of (step_of p c) cs

-- no call ends the run
unfoldable pub FitsRun : {K : Kind} → State → KindCall K → Type 0
FitsRun p (call c) = Unit {0}
FitsRun {K} p (further c) = K.Fits p c

unfoldable pub AllFit : {K : Kind} → State → List (KindCall K) → Type 0
AllFit p [] = Unit {0}
AllFit p (c ∷ cs) = FitsRun p c × AllFit (step_of p c) cs

-- the calls that a call is, and the same run as calls alone
unfoldable pub calls_of : {K : Kind} → State → KindCall K → List Call
calls_of p (call c) = c ∷ []
calls_of {K} p (further c) = K.calls p c

unfoldable pub as_calls : {K : Kind} → State → List (KindCall K) → List Call
as_calls p [] = []
as_calls p (c ∷ cs) = calls_of p c ++ as_calls (step_of p c) cs

-- by the replay: a further call's changes are those of the calls that it is on the replay's pair, and its answer is what the rules give there
unfoldable pub standing_of : {K : Kind} → State → List Change → List (KindCall K) → List Change
standing_of start changes [] = changes
standing_of start changes (c ∷ cs) = standing_of start (standing start changes (calls_of (replayed start changes) c)) cs

unfoldable pub replay_answer_of : {K : Kind} → State → List Change → KindCall K → KindAnswer K
replay_answer_of start changes (call c) = answered (replay_answer start changes c)
replay_answer_of {K} start changes (further c) = replied (K.reply (replayed start changes) c)

unfoldable pub replay_answers_of : {K : Kind} → State → List Change → List (KindCall K) → List (KindAnswer K)
replay_answers_of start changes [] = []
replay_answers_of start changes (c ∷ cs) =
    replay_answer_of start changes c ∷ replay_answers_of start (standing start changes (calls_of (replayed start changes) c)) cs

-- Demand 3 with further calls: image and whole journal are those of the run as calls alone, and of the replay; every answer is the replay's.
pub record MatchesKindReplay {K : Kind} (start : State) (calls : List (KindCall K)) : Type 0 where
  pub as-calls : run_of start calls ≡ run start (as_calls start calls)
  pub state : run_of start calls ≡ replayed start (standing_of start [] calls)
  pub answered : answers_of start calls ≡ replay_answers_of start [] calls

-- a state that a run of calls reaches from a sound image and a journal just started
pub record Reached (p : State) : Type 0 where
  pub from : List ℕ
  pub size : ℕ
  pub made : List Call
  pub sound : check from ≡ 0
  pub low : min_journal ≤ size
  pub high : size ≤ max_journal
  pub is : p ≡ run (state from (started size)) made

-- on such a state, a further call that does not end the run leaves what the calls that it is leave
abbrev pub StandsFor : Kind → Type 0
StandsFor K = (p : State) → Reached p → (c : K.Further) → K.Fits p c → K.after p c ≡ run p (K.calls p c)

abbrev pub KindRunTheorem : Kind → Type 0
KindRunTheorem K =
    (image : List ℕ) (size : ℕ) (calls : List (KindCall K)) → check image ≡ 0 → min_journal ≤ size → size ≤ max_journal
    → let start : State = record { image = image; journal = started size } in
    AllFit start calls → MatchesKindReplay start calls

-- the same where no further call ever ends a run
abbrev pub FreeRunTheorem : Kind → Type 0
FreeRunTheorem K =
    (image : List ℕ) (size : ℕ) (calls : List (KindCall K)) → check image ≡ 0 → min_journal ≤ size → size ≤ max_journal
    → MatchesKindReplay {K = K} (record { image = image; journal = started size }) calls

-- Several kinds as one: a further call is one of any of them, with the name of its kind.
abbrev pub one_of : {I : Type 0} → (I → Kind) → Kind
one_of {I} kinds = record {
  Further = (i : I) × (kinds i).Further;
  Reply = (i : I) × (kinds i).Reply;
  after = λ p c. (kinds c.0).after p c.1;
  reply = λ p c. (c.0, (kinds c.0).reply p c.1);
  calls = λ p c. (kinds c.0).calls p c.1;
  Fits = λ p c. (kinds c.0).Fits p c.1;
}
