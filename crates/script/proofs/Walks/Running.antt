-- The loop that runs a script: what is left to run, run from here, gives what all gives from the start; and the outcome of a run.
use Prim.Native.Nat.{ℕ, ◌+◌, ◌-◌, ◌≤◌, ◌<◌}
use mathlib.Core.Path.{◌≡◌, refl, sym, ap, ◌∙◌}
use mathlib.Core.Bool.{true, false}
use mathlib.Core.List.{List, [], ◌∷◌}
use native.Mathlib.Omega.{arith}
use borrow.Rule.Slice.PartMut.{put_mid}
use lib.Dec.{leb}
use lib.ListN.{length, length-append}
use Rattle.layout.specs.Lists.{every, joined}
use Rattle.layout.specs.Bytes.{splice}
use Rattle.journal.specs.Run.{State, state}
use Rattle.journal.specs.Kinds.{KindCall, step_of, answer_of, run_of, answers_of}
use Rattle.script.specs.Script.{item_kinds, item_size, item_call, item_ok, items_from, calls_from, calls_of, encoded_item, item_room, answers_size, done, malformed, no_room, Outcome, leaves, given, outcome}
use Rattle.script.specs.Walks.Scripts.{ItemDone}
use Rattle.layout.proofs.Laws.Bytes.{put_mid-splice, length-splice, splice-nil, splice-append}
use Rattle.script.proofs.Walks.Scripts.{Next, next, calls-none, calls-step, sizes_step}
use Rattle.script.proofs.Walks.Encoding.{item-length}

pub answers-length : (p : State) (cs : List (KindCall item_kinds)) → length (joined encoded_item (answers_of p cs)) ≡ answers_size cs
unfolding answers_of answers_size
answers-length p [] = refl
answers-length p (c ∷ cs) =
    length-append (encoded_item (answer_of p c)) (joined encoded_item (answers_of (step_of p c) cs)) ∙ rw (item-length p c, answers-length (step_of p c) cs)

pub record Midway (start : State) (s out₀ image journal out : List ℕ) (at q : ℕ) : Type 0 where
  pub items : every (item_ok s) (items_from s at) ≡ true
  pub room : q + answers_size (calls_from s at) ≤ length out
  pub states : run_of start (calls_of s) ≡ run_of (state image journal) (calls_from s at)
  pub outs : splice out₀ 0 (joined encoded_item (answers_of start (calls_of s))) ≡ splice out q (joined encoded_item (answers_of (state image journal) (calls_from s at)))

pub run-start : (s image journal out : List ℕ) → every (item_ok s) (items_from s 0) ≡ true → answers_size (calls_of s) ≤ length out
    → Midway (state image journal) s out image journal out 0 0
run-start s image journal out w h = record { items = w; room = omega arith; states = refl; outs = refl }

module _ (start : State) (s out₀ image journal out : List ℕ) (at q : ℕ) (i : Midway start s out₀ image journal out at q) where
  -- the next item and its answer have their places
  pub run-next : at < length s → (Next s at) × (q + item_room (item_call s at) ≤ length out)
  run-next h = (next s at h i.items, omega (arith, i.room, sizes_step s at h))

  run_step : at < length s → (image' journal' out' part' : List ℕ) → ItemDone (state image journal) (item_call s at) image' journal' part'
      → out' ≡ splice out q part' → Midway start s out₀ image' journal' out' (at + item_size s at) (q + item_room (item_call s at))
  unfolding run_of answers_of
  run_step h image' journal' out' part' m e =
      let p : State = state image journal in
      let c : KindCall item_kinds = item_call s at in
      let rest : List (KindCall item_kinds) = calls_from s (at + item_size s at) in
      let more : calls_from s at ≡ c ∷ rest = calls-step s at h in
      let answered : List ℕ = encoded_item (answer_of p c) in
      let later : List ℕ = joined encoded_item (answers_of (step_of p c) rest) in
      let l : length answered ≡ item_room c = item-length p c in
      let k : length later ≡ answers_size rest = answers-length (step_of p c) rest in
      let sizes = sizes_step s at h in
      let room : q + answers_size (calls_from s at) ≤ length out = i.room in
      let wrote : out' ≡ splice out q answered = e ∙ ap (splice out q) m.answered in
      let long : length out' ≡ length out = ap length wrote ∙ length-splice out q answered (omega arith) in
      record {
        items = (next s at h i.items).rest;
        room = omega arith;
        states = i.states ∙ ap (run_of p) more ∙ ap (λ (x : State). run_of x rest) (sym m.after);
        outs =
            i.outs ∙ ap (λ (cs : List (KindCall item_kinds)). splice out q (joined encoded_item (answers_of p cs))) more
            ∙ sym (splice-append out q answered later (omega arith))
            ∙ rw (wrote, l, m.after);
      }

  -- as the code does it: the answer was written to a part of out
  pub run-turn : at < length s → (size room : ℕ) → size ≡ item_size s at → room ≡ item_room (item_call s at) → (image' journal' part' : List ℕ)
      → ItemDone (state image journal) (item_call s at) image' journal' part' → length part' ≡ q + room - q
      → Midway start s out₀ image' journal' (put_mid q (q + room - q) out part') (at + size) (q + room)
  run-turn h size room e f image' journal' part' m l =
      rw (put_mid-splice out q (q + room - q) part' l, e, f) (run_step h image' journal' (splice out q part') part' m refl)

  pub run_end : length s ≤ at
      → (state image journal ≡ run_of start (calls_of s)) × (out ≡ splice out₀ 0 (joined encoded_item (answers_of start (calls_of s))))
  unfolding run_of answers_of
  run_end h =
      let e : calls_from s at ≡ [] = calls-none s at h in (
        sym (i.states ∙ ap (run_of (state image journal)) e),
        sym (i.outs ∙ ap (λ (cs : List (KindCall item_kinds)). splice out q (joined encoded_item (answers_of (state image journal) cs))) e ∙ splice-nil out q),
      )

-- the outcome, by the two tests
module _ (s image journal out : List ℕ) where
  pub bad-script : every (item_ok s) (items_from s 0) ≡ false → leaves malformed image journal out ≡ outcome (state image journal) s out
  unfolding outcome given
  bad-script e = rw e

  pub no-room : every (item_ok s) (items_from s 0) ≡ true → leb (answers_size (calls_of s)) (length out) ≡ false
      → leaves no_room image journal out ≡ outcome (state image journal) s out
  unfolding outcome given
  no-room e f = rw (e, f)

  pub all-run : every (item_ok s) (items_from s 0) ≡ true → leb (answers_size (calls_of s)) (length out) ≡ true → (image' journal' out' : List ℕ)
      → state image' journal' ≡ run_of (state image journal) (calls_of s)
      → out' ≡ splice out 0 (joined encoded_item (answers_of (state image journal) (calls_of s)))
      → leaves done image' journal' out' ≡ outcome (state image journal) s out
  unfolding outcome given
  all-run e f image' journal' out' g h = rw (e, f) (ap (λ (p : State). made p out') g ∙ ap (λ (o : List ℕ). made (run_of (state image journal) (calls_of s)) o) h)
    where
      made : State → List ℕ → Outcome
      made p o = record { status = done; state = p; out = o }
