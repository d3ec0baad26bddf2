-- One call of a script made: from what the call promises and what was written of its answer.
use Prim.Native.Nat.{ℕ, zero, suc, ◌+◌, ◌≤◌, ◌<◌}
use mathlib.Core.Path.{◌≡◌, refl, sym, ap, subst, ◌∙◌}
use mathlib.Core.List.{List}
use mathlib.Core.Bool.{true, false}
use mathlib.Core.Logic.{⊎_elim}
use native.Mathlib.Omega.{arith}
use lib.ListN.{length}
use Rattle.layout.specs.Bytes.{be32, be64, splice}
use Rattle.store.specs.Change.{Change, put_in}
use Rattle.store.specs.Asked.{asked}
use Rattle.store.specs.declared.change.Change.{Change as Kind}
use Rattle.journal.specs.Run.{Call, Answer, State, Look, change, undo, look, step, answer, after_change, change_answer, after_undo, undo_answer, look_answer, state}
use Rattle.script.specs.Script.{list, journal_info, undo_to, item_kinds, encoded_reply, op_at, name_at, directory_at, serial_at, data_at, put_at, change_at, call_at, shows, show_at, item_call, answer_size, numbers, encoded, encoded_item}
use Rattle.write_list.specs.List.{Listed, listed, write_list}
use Rattle.back.specs.Marks.{InfoAnswer, info, journal_info as answerOfInfo}
use Rattle.back.specs.UndoTo.{Backed, backed, undo_to as backTo}
use Rattle.journal.specs.Kinds.{KindCall, further, step_of, answer_of}
use Rattle.script.specs.Walks.Scripts.{looks, CallDone, ItemDone}
use Rattle.script.proofs.Walks.Scripts.{is-change, is-check, is-lookup, is_read, is-look-in-place, is-read-attributes, is_call, is-show, is-list, is-info, is-undo-to, looks-split}
use Rattle.script.proofs.Walks.Encoding.{numbers-alone}

module _ (p : State) (image journal part part' : List ℕ) (n₁ n₂ n₃ n₄ : ℕ) (a : Answer)
    (encodes : numbers n₁ n₂ n₃ n₄ ≡ encoded a) (writes : part' ≡ splice part 0 (numbers n₁ n₂ n₃ n₄)) where
  pub change-made : (call : Call) (c : Change) → call ≡ change c → length part ≡ answer_size call → a ≡ change_answer p c → state image journal ≡ after_change p c
      → CallDone p call image journal part'
  unfolding step answer answer_size
  change-made call c e l answered after =
      record {
        after = after ∙ sym (ap (step p) e);
        answered = writes ∙ numbers-alone part n₁ n₂ n₃ n₄ (l ∙ ap answer_size e) ∙ encodes ∙ ap encoded (answered ∙ sym (ap (answer p) e));
      }

  pub undo-made : length part ≡ 16 → a ≡ undo_answer p → state image journal ≡ after_undo p → CallDone p undo image journal part'
  unfolding step answer
  undo-made l answered after = record { after = after; answered = writes ∙ numbers-alone part n₁ n₂ n₃ n₄ l ∙ encodes ∙ ap encoded answered }

pub look-answered : (image journal part : List ℕ) (call : Call) (l : Look) → call ≡ look l → part ≡ encoded (look_answer image l)
    → part ≡ encoded (answer (state image journal) call)
unfolding answer
look-answered image journal part call l e answered = answered ∙ sym (ap (λ (c : Call). encoded (answer (state image journal) c)) e)

-- the call of an item by what the code has read of it
pub item-change : (s : List ℕ) (at : ℕ) (what : Kind) (name bytes : List ℕ) → name ≡ name_at s at → bytes ≡ data_at s at
    → asked what (name_at s at) (data_at s at) ≡ change_at s at → looks (op_at s at) ≡ false → (op_at s at ≡ 8 → ⊥) → call_at s at ≡ change (asked what name bytes)
item-change s at what name bytes n b a h ne = is-change s at h ne ∙ ap change (sym a) ∙ rw (n, b)

pub item-put : (s : List ℕ) (at : ℕ) (directory serial bytes : List ℕ) (time : ℕ) → directory ≡ directory_at s at → serial ≡ serial_at s at
    → time ≡ be64 s (at + 17) → bytes ≡ data_at s at → change (put_at s at) ≡ change (put_in directory serial time bytes)
unfolding put_at
item-put s at directory serial bytes time d n t b = rw (d, n, t, b)

-- a call that only looks leaves image and journal
one-of : {P : Type 0} (x : ℕ) → 1 ≤ x → x ≤ 4 → (x ≡ 1 → P) → (x ≡ 2 → P) → (x ≡ 3 → P) → (x ≡ 4 → P) → P
one-of zero l h a b c d = absurd (omega arith)
one-of (suc zero) l h a b c d = a refl
one-of (suc (suc zero)) l h a b c d = b refl
one-of (suc (suc (suc zero))) l h a b c d = c refl
one-of (suc (suc (suc (suc zero)))) l h a b c d = d refl
one-of (suc (suc (suc (suc (suc x))))) l h a b c d = absurd (omega arith)

look-keeps : (p : State) (s : List ℕ) (at : ℕ) → 1 ≤ op_at s at → looks (op_at s at) ≡ true → step p (call_at s at) ≡ p
unfolding step
look-keeps p s at l t =
    ⊎_elim (λ e. ap (step p) (is-read-attributes s at e))
    (λ h. one-of (op_at s at) l h (λ e. ap (step p) (is-check s at e)) (λ e. ap (step p) (is-lookup s at e)) (λ e. ap (step p) (is_read s at e))
    (λ e. ap (step p) (is-look-in-place s at e)))
    (looks-split (op_at s at) t)

pub look-made : (image journal part s : List ℕ) (at : ℕ) → 1 ≤ op_at s at → looks (op_at s at) ≡ true
    → ((j : List ℕ) → part ≡ encoded (answer (state image j) (call_at s at)))
    → CallDone (state image journal) (call_at s at) image journal part
look-made image journal part s at l h answered = record { after = sym (look-keeps (state image journal) s at l h); answered = answered journal }

-- an item that is a call, and one that is a list
pub call-item : (p : State) (s : List ℕ) (at : ℕ) (image journal part : List ℕ) → (op_at s at ≡ 15 → ⊥) → op_at s at < 27 → shows (op_at s at) ≡ false
    → CallDone p (call_at s at) image journal part → ItemDone p (item_call s at) image journal part
unfolding step_of answer_of encoded_item
call-item p s at image journal part n m h d = rw (is_call s at n m h) (record { after = d.after; answered = d.answered })

pub show-item : (image journal s : List ℕ) (at : ℕ) (part : List ℕ) → shows (op_at s at) ≡ true → part ≡ encoded (look_answer image (show_at s at))
    → ItemDone (state image journal) (item_call s at) image journal part
unfolding step_of answer_of encoded_item step answer
show-item image journal s at part h e = rw (is-show s at h) (record { after = refl; answered = e })

pub list-item : (p : State) (s : List ℕ) (at : ℕ) (image journal part part' bytes : List ℕ) (number done : ℕ) → op_at s at ≡ 15 → length part ≡ 16
    → bytes ≡ data_at s at → listed (state image journal) number done ≡ write_list p bytes → part' ≡ splice part 0 (numbers number done 0 0)
    → ItemDone p (item_call s at) image journal part'
unfolding step_of answer_of encoded_item encoded_reply
list-item p s at image journal part part' bytes number done e l b w written =
    let made : ItemDone p (further (list, bytes)) image journal part' = record {
      after = ap (λ (o : Listed). o.state) w;
      answered = written ∙ numbers-alone part number done 0 0 l ∙ ap (λ (o : Listed). numbers o.number o.done 0 0) w;
    } in
    let same : item_call s at ≡ further (list, bytes) = is-list s at e ∙ ap (λ (l : List ℕ). further (list, l)) (sym b) in
    subst (λ (c : KindCall item_kinds). ItemDone p c image journal part') (sym same) made

-- journal info, and undo to a mark
pub info-item : (s : List ℕ) (at : ℕ) (image journal part part' : List ℕ) (number used records last : ℕ) → op_at s at ≡ 27 → length part ≡ 16
    → info number used records last ≡ answerOfInfo (state image journal) → part' ≡ splice part 0 (numbers number used records last)
    → ItemDone (state image journal) (item_call s at) image journal part'
unfolding step_of answer_of encoded_item encoded_reply
info-item s at image journal part part' number used records last e l w written =
    let made : ItemDone (state image journal) (further (journal_info, tt)) image journal part' = record {
      after = refl;
      answered = written ∙ numbers-alone part number used records last l ∙ ap (λ (a : InfoAnswer). numbers a.number a.used a.records a.last) w;
    } in
    subst (λ (c : KindCall item_kinds). ItemDone (state image journal) c image journal part') (sym (is-info s at e)) made

pub undo-to-item : (p : State) (s : List ℕ) (at : ℕ) (image journal part part' : List ℕ) (mark number done : ℕ) → 27 ≤ op_at s at → (op_at s at ≡ 27 → ⊥)
    → length part ≡ 16 → mark ≡ be32 s (at + 13) → backed (state image journal) number done ≡ backTo p mark → part' ≡ splice part 0 (numbers number done 0 0)
    → ItemDone p (item_call s at) image journal part'
unfolding step_of answer_of encoded_item encoded_reply
undo-to-item p s at image journal part part' mark number done h n l m w written =
    let made : ItemDone p (further (undo_to, mark)) image journal part' = record {
      after = ap (λ (b : Backed). b.state) w;
      answered = written ∙ numbers-alone part number done 0 0 l ∙ ap (λ (b : Backed). numbers b.number b.done 0 0) w;
    } in
    let same : item_call s at ≡ further (undo_to, mark) = is-undo-to s at h n ∙ ap (λ (x : ℕ). further (undo_to, x)) (sym m) in
    subst (λ (c : KindCall item_kinds). ItemDone p c image journal part') (sym same) made
