-- Undo, step by step: its refusals, and the record that it takes back.
use Prim.Native.Nat.{ℕ, zero, suc, ◌+◌, ◌*◌, ◌≤◌}
use mathlib.Core.Path.{◌≡◌, refl, sym, ◌∙◌}
use mathlib.Core.Bool.{Bool, true, false}
use mathlib.Core.List.{List}
use mathlib.Core.Logic.{⊎_elim}
use native.Mathlib.Omega.{arith}
use borrow.Author.Tests.{ne_eqb}
use lib.ListN.{length}
use Rattle.layout.specs.Lists.{interval, last_or}
use Rattle.layout.specs.Refusals.{require, first_of}
use Rattle.layout.specs.Bytes.{be32, bytes4, zeros, splice}
use Rattle.layout.specs.Geometry.{block_count}
use Rattle.layout.specs.Check.{check}
use Rattle.journal.specs.Journal.{used, copies, record_ok, records, well_formed, last_record, restored, undone_image, undone_journal}
use Rattle.journal.specs.Run.{State, Answer, undone, undo_refusal, after_undo, undo_answer, state}
use Rattle.journal.specs.Walks.Undoing.{Last, Saved}
use Rattle.journal.specs.Walks.Changes.{ready_refusal, Ready}
use Rattle.layout.proofs.Laws.Tests.{accept-refused}
use Rattle.layout.proofs.Laws.Sound.{sound}
use Rattle.journal.proofs.Laws.Append.{Fine, fine, WellFormed, well}
use Rattle.layout.proofs.Laws.Lists.{In, every_in, last-in}

-- 1 to 8 come before every other refusal
pub unready : (a rest : ℕ) (t : Bool) (r : ℕ) → r ≡ first_of a (require t 8 0) → (r ≡ 0 → ⊥) → first_of a (require t 8 rest) ≡ r
unready zero rest true r e h = absurd (h e)
unready zero rest false r e h = sym e
unready (suc a) rest t r e h = sym e

-- what undo answers and leaves
abbrev pub Undoes : State → Answer → State → Type 0
Undoes p a q = (a ≡ undo_answer p) × (q ≡ after_undo p)

module _ (s j : List ℕ) where
  refused : (r : ℕ) → undo_refusal (state s j) ≡ r → (r ≡ 0 → ⊥) → Undoes (state s j) (undone r 0) (state s j)
  unfolding undo_answer after_undo
  refused r e h = rw e (sym (accept-refused r _ (undone r 0) h), sym (accept-refused r _ (state s j) h))

  -- 1 to 8
  pub undo-unready : (r : ℕ) → r ≡ ready_refusal (state s j) → (r ≡ 0 → ⊥) → Undoes (state s j) (undone r 0) (state s j)
  unfolding undo_refusal ready_refusal
  undo-unready r e h = refused r (unready (check s) _ (well_formed j (block_count s)) r e h) h

  -- 16
  pub undo-none : Ready s j → last_record j ≡ 0 → Undoes (state s j) (undone 16 0) (state s j)
  unfolding undo_refusal
  undo-none w l = refused 16 (rw (w.sound, w.well-formed, l)) (λ e. omega arith)

pub last-ready : {s j : List ℕ} {at : ℕ} → Ready s j → at ≡ last_record j → (at ≡ 0 → ⊥) → Last s j at
last-ready {s} w l h = let z = sound s w.sound in record { whole = z.whole; blocks = z.most; well-formed = w.well-formed; last = l; some = h }

module _ (s j : List ℕ) (at : ℕ) (l : Last s j at) where
  pub last-well : WellFormed j (block_count s)
  last-well = well j (block_count s) l.well-formed

  pub last-fine : Fine j (block_count s) at
  unfolding last_record
  last-fine =
      let e = l.last in
      let i : In (last_or 0 (records j)) (records j) = ⊎_elim (λ z. absurd (l.some (e ∙ z))) (λ m. m) (last-in (records j) 0) in
      fine j (block_count s) at (rw e (every_in (record_ok j (block_count s)) (records j) (last_or 0 (records j)) last-well.recorded i))

  pub last-saved : (k : ℕ) → k ≡ copies j at → Saved s j (block_count s) at k
  last-saved k e =
      let f = last-fine in
      let size : be32 j at ≡ 4 + 516 * copies j at = f.size in
      let inside : at + be32 j at ≤ used j = f.inside in
      let high : used j ≤ length j = last-well.used_high in
      record { whole = l.whole; blocks = l.blocks; inside = omega arith; below = rw e f.below }

  pub last-image : (k : ℕ) → k ≡ copies j at → restored s j at (interval 0 k) ≡ undone_image s j
  unfolding undone_image
  last-image k e = rw (e, l.last)

  pub last-journal : (size : ℕ) → size ≡ be32 j at → splice (splice j at (zeros size)) 1 (bytes4 at) ≡ undone_journal j
  unfolding undone_journal
  last-journal size e = rw (e, l.last)

  accepted : check s ≡ 0 → undo_refusal (state s j) ≡ 0
  unfolding undo_refusal
  accepted ok = rw (ok, l.well-formed, ne_eqb (last_record j) 0 (λ e. l.some (l.last ∙ e)))

  pub undo-done : check s ≡ 0 → (size : ℕ) → size ≡ be32 j (last_record j) → (t i : List ℕ) → t ≡ undone_image s j → i ≡ undone_journal j
      → Undoes (state s j) (undone 0 size) (state t i)
  unfolding undo_answer after_undo
  undo-done ok size e t i a b = rw (accepted ok, e, a, b) (refl, refl)
