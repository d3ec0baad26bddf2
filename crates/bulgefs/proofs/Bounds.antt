-- The answers: each case of an enum, as the fields of a struct.
use Prim.Native.Nat.{ℕ, zero, suc}
use mathlib.Core.Path.{◌≡◌, refl, sym, ap, ◌∙◌}
use native.Mathlib.Omega.{arith}
use lib.ListN.{length}
use Rattle.store.specs.Change.{Change, slot_given}
use Rattle.journal.specs.Run.{State, Answer, changed, change_refusal, change_answer, record_of}
use Rattle.journal.specs.Answers.{changed_answer, undone_answer}
use Rattle.journal.specs.declared.calls.Changed.{Changed}
use Rattle.std.specs.Prelude.{Result}
use Rattle.layout.specs.declared.refusal.Refusal.{Refusal}

-- the answer of a change or an undo, by the case that it is; write and delete give no slot
pub change-case : {v w : Result Changed Refusal} (a : Answer) → v ≡ w → changed_answer v ≡ a → changed_answer w ≡ a
change-case a e h = ap (λ (r : Result Changed Refusal). changed_answer r) (sym e) ∙ h

pub undo-case : {v w : Result ℕ Refusal} (a : Answer) → v ≡ w → undone_answer v ≡ a → undone_answer w ≡ a
undo-case a e h = ap (λ (r : Result ℕ Refusal). undone_answer r) (sym e) ∙ h

pub no_slot : (p : State) (c : Change) → slot_given p.image c ≡ 0 → (slot size : ℕ) → changed 0 slot size ≡ change_answer p c → changed 0 0 size ≡ change_answer p c
unfolding change_answer
no_slot p c z slot size = go (change_refusal p c) refl
  where
    go : (r : ℕ) → change_refusal p c ≡ r → changed 0 slot size ≡ change_answer p c → changed 0 0 size ≡ change_answer p c
    go zero e h =
        let f : changed 0 slot size ≡ changed 0 (slot_given p.image c) (length (record_of p c)) = rw e at h in
        let g : slot ≡ slot_given p.image c = cc in
        let k : slot ≡ 0 = g ∙ z in
        rw e (ap (λ (x : ℕ). changed 0 x size) (sym k) ∙ f)
    go (suc r) e h =
        let f : changed 0 slot size ≡ changed (suc r) 0 0 = rw e at h in
        let g : ◌≡◌ {A = ℕ} 0 (suc r) = cc in
        absurd (omega arith)
