-- The exits of append.
use Prim.Native.Nat.{ℕ, zero, suc}
use mathlib.Core.Path.{◌≡◌, refl, sym, ap, ◌∙◌}
use mathlib.Core.List.{List, [], ◌∷◌}
use native.Mathlib.Nat.{suc-ne-zero}
use lib.ListN.{length}
use Rattle.layout.specs.Refusals.{accept}
use Rattle.layout.specs.Geometry.{block_count}
use Rattle.layout.specs.Check.{check}
use Rattle.layout.specs.Directory.{is_file, size_of}
use Rattle.layout.specs.Paths.{file_refusal, entry_of}
use Rattle.layout.specs.Walks.Looks.{Opens}
use Rattle.layout.proofs.Laws.Tests.{accept-either}
use Rattle.volume.specs.Change as volume
use Rattle.store.specs.Change.{write, refusal, slot_given}
use Rattle.journal.specs.Journal.{well_formed}
use Rattle.journal.specs.Run.{State, Answer, state, changed, undone, checked, found, filled, shown, described, entered, got, change_refusal, change_answer, after_change}
use Rattle.journal.specs.Walks.Changes.{Ready, ready_refusal}
use Rattle.journal.proofs.Walks.Undoing.{unready}
use Rattle.journal.proofs.Walks.Changes.{change-unready}
use Rattle.append.specs.Append.{file_end, piece_write, append_refusal, after_append, append_answer}

-- where a file that was opened ends
pub opened-end : {s path : List ℕ} {number slot b first size blocks : ℕ} → Opens is_file s path (file_refusal s path) number slot b first size blocks → size ≡ file_end s path
unfolding file_end
opened-end {s} {path} {number} {size = size} o = go number refl
  where
    go : (k : ℕ) → number ≡ k → size ≡ accept (file_refusal s path) (size_of s (entry_of is_file s path)) 0
    go zero e = rw (sym o.number_is ∙ e) (o.file e).bytes
    go (suc k) e =
        let none = o.none (λ z. suc-ne-zero k (sym e ∙ z)) in
        rw (sym o.number_is ∙ e) none.no_size

abbrev pub Appends : State → (path piece : List ℕ) → ℕ → Answer → State → Type 0
Appends p path piece time a q = (a ≡ append_answer p path piece time) × (q ≡ after_append p path piece time)

module _ (s j path : List ℕ) (time : ℕ) where
  pub append-unready : (piece : List ℕ) (r : ℕ) → r ≡ ready_refusal (state s j) → (r ≡ 0 → ⊥) → Appends (state s j) path piece time (changed r 0 0) (state s j)
  unfolding ready_refusal append_refusal append_answer after_append
  append-unready [] r e h = (ap (λ (x : ℕ). changed x 0 0) (sym (unready (check s) _ (well_formed j (block_count s)) r e h)), refl)
  append-unready (b ∷ bs) r e h = change-unready (piece_write (state s j) path (b ∷ bs) time) s j r e h

  pub append-empty : Ready s j → (piece : List ℕ) → length piece ≡ 0 → (end : ℕ) → end ≡ file_end s path → {a : Answer}
      → a ≡ changed (refusal s (write path end [] time)) 0 0 → Appends (state s j) path piece time a (state s j)
  unfolding append_refusal append_answer after_append piece_write
  append-empty w [] z end e f = (f ∙ rw (e, w.sound, w.well-formed), refl)
  append-empty w (b ∷ bs) z end e f = absurd (suc-ne-zero _ z)

  pub append-some : (piece : List ℕ) → (length piece ≡ 0 → ⊥) → (end : ℕ) → end ≡ file_end s path → {a : Answer} {q : State}
      → a ≡ change_answer (state s j) (write path end piece time) → q ≡ after_change (state s j) (write path end piece time) → Appends (state s j) path piece time a q
  unfolding append_answer after_append piece_write
  append-some [] z end e f g = absurd (z refl)
  append-some (b ∷ bs) z end e f g = (f ∙ rw e, g ∙ rw e)

-- an append answers no slot
abbrev slot_of : Answer → ℕ
slot_of (changed number slot size) = slot
slot_of (undone number size) = 0
slot_of (checked number) = 0
slot_of (found a) = 0
slot_of (filled a) = 0
slot_of (shown x bytes) = 0
slot_of (described a) = 0
slot_of (entered a) = 0
slot_of (got a) = 0

answer-slotless : (p : State) (path piece : List ℕ) (time : ℕ) → slot_of (append_answer p path piece time) ≡ 0
unfolding append_answer piece_write change_answer slot_given volume.slot_given
answer-slotless p path [] time = refl
answer-slotless p path (b ∷ bs) time =
    accept-either (λ (a : Answer). slot_of a ≡ 0) (change_refusal p (write path (file_end p.image path) (b ∷ bs) time)) _ _ refl refl

pub append-slotless : (p : State) (path piece : List ℕ) (time : ℕ) {number slot size : ℕ} → changed number slot size ≡ append_answer p path piece time
    → changed number 0 size ≡ append_answer p path piece time
append-slotless p path piece time {number} {slot} {size} e =
    let z : slot ≡ 0 = ap slot_of e ∙ answer-slotless p path piece time in
    ap (λ (k : ℕ). changed number k size) (sym z) ∙ e
