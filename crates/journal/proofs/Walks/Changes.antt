-- The journaled calls, step by step over any change: the refusals in their order, the record, and the change.
use Prim.Native.Nat.{ℕ, zero, suc, ◌+◌, ◌*◌, ◌≤◌, ◌<◌}
use mathlib.Core.Path.{◌≡◌, refl, sym, ap, subst, ◌∙◌}
use mathlib.Core.Bool.{Bool, true, false}
use mathlib.Core.List.{List}
use native.Mathlib.Nat.{suc-ne-zero, sub-zero}
use native.Mathlib.Omega.{arith}
use borrow.Author.Tests.{le-leb, lt-leb}
use lib.Dec.{leb}
use lib.ListN.{length}
use Rattle.layout.specs.Refusals.{require, accept}
use Rattle.layout.specs.Bytes.{zeros}
use Rattle.layout.specs.Geometry.{block_count}
use Rattle.layout.specs.Check.{check}
use Rattle.store.specs.Change.{Change, refusal, after, named, slot_given}
use Rattle.journal.specs.Journal.{used, well_formed, ascending, record_bytes, added, last_record}
use Rattle.journal.specs.Run.{State, Answer, changed, number_of, record_of, change_refusal, after_change, change_answer, state}
use Rattle.journal.specs.Walks.Saves.{Marks, marked_from}
use Rattle.journal.specs.Walks.Changes.{ready_refusal, Ready, Inspects, room_refusal, record_marked, Recorded}
use Rattle.volume.specs.Walks.Marks.{marked}
use Rattle.layout.proofs.Laws.Tests.{first_of-zero, require-zero, first_of-refused, accept-refused}
use Rattle.layout.proofs.Laws.Sound.{sound}
use Rattle.journal.proofs.Laws.Ascending.{ascending-below}
use Rattle.journal.proofs.Laws.Records.{length-record}
use Rattle.journal.proofs.Walks.Marked.{marked-ascending, marked-below}
use Rattle.journal.proofs.Walks.Undoing.{unready}

-- what inspecting gives, by the refusals 1 to 8
module _ (s j : List ℕ) where
  pub inspects-unsound : (r : ℕ) → r ≡ check s → (r ≡ 0 → ⊥) → Inspects (state s j) r 0
  unfolding ready_refusal
  inspects-unsound r e h = record { number_is = rw (← e) (sym (first_of-refused r _ h)); found = sym (accept-refused r _ 0 h) }

  pub inspects-malformed : check s ≡ 0 → false ≡ well_formed j (block_count s) → Inspects (state s j) 8 0
  unfolding ready_refusal
  inspects-malformed c w = record { number_is = rw (c, ← w); found = refl }

  pub inspects-ready : {last : ℕ} → check s ≡ 0 → true ≡ well_formed j (block_count s) → last ≡ last_record j → Inspects (state s j) 0 last
  unfolding ready_refusal
  inspects-ready c w l = record { number_is = rw (c, ← w); found = l }

pub inspected-last : (p : State) {number last : ℕ} → Inspects p number last → number ≡ 0 → last ≡ last_record p.journal
inspected-last p i e = i.found ∙ rw e

pub ready : (s j : List ℕ) → ready_refusal (state s j) ≡ 0 → Ready s j
unfolding ready_refusal
ready s j e =
    let a = first_of-zero (check s) _ e in
    record { sound = a.0; well-formed = (require-zero (well_formed j (block_count s)) 7 0 a.1).0 }

-- the room is refused by 15 or not at all
room-fifteen : (t : Bool) (k : ℕ) → require t 15 0 ≡ suc k → require t 15 0 ≡ 15
room-fifteen true k e = absurd (suc-ne-zero k (sym e))
room-fifteen false k e = refl

-- a change's answer begins with the number of its refusal
pub answer-number : (p : State) (c : Change) → number_of (change_answer p c) ≡ change_refusal p c
unfolding change_answer
answer-number p c = go (change_refusal p c) (slot_given p.image c) (length (record_of p c))
  where
    go : (k slot size : ℕ) → number_of (accept k (changed 0 slot size) (changed k 0 0)) ≡ k
    go zero slot size = refl
    go (suc k) slot size = refl

-- what a call answers and leaves
abbrev pub Does : Change → State → Answer → State → Type 0
Does c p a q = (a ≡ change_answer p c) × (q ≡ after_change p c)

module _ (c : Change) (s j : List ℕ) where
  refused : (r : ℕ) → change_refusal (state s j) c ≡ r → (r ≡ 0 → ⊥) → Does c (state s j) (changed r 0 0) (state s j)
  unfolding change_answer after_change
  refused r e h = rw e (sym (accept-refused r _ (changed r 0 0) h), sym (accept-refused r _ (state s j) h))

  -- 1 to 8
  pub change-unready : (r : ℕ) → r ≡ ready_refusal (state s j) → (r ≡ 0 → ⊥) → Does c (state s j) (changed r 0 0) (state s j)
  unfolding change_refusal ready_refusal
  change-unready r e h = refused r (unready (check s) _ (well_formed j (block_count s)) r e h) h

  module _ (w : Ready s j) where
    -- 9 to 14
    pub change-refused : (r : ℕ) → r ≡ refusal s c → (r ≡ 0 → ⊥) → Does c (state s j) (changed r 0 0) (state s j)
    unfolding change_refusal
    change-refused r e h = refused r (rw (w.sound, w.well-formed, ← e) (first_of-refused r _ h)) h

    record-some : length (record_of (state s j) c) ≡ 0 → ⊥
    unfolding record_of
    record-some e =
        let z = sound s w.sound in
        omega (arith, length-record (block_count s) s (omega (arith, z.whole)) z.most (ascending (block_count s) (named s c)) (ascending-below (block_count s) (named s c)))

    number_is : refusal s c ≡ 0 → change_refusal (state s j) c ≡ room_refusal j (record_of (state s j) c)
    unfolding change_refusal room_refusal
    number_is ok = rw (w.sound, w.well-formed, ok)

    fifteen : (k : ℕ) → room_refusal j (record_of (state s j) c) ≡ suc k → room_refusal j (record_of (state s j) c) ≡ 15
    unfolding room_refusal
    fifteen k e = room-fifteen (leb (used j + length (record_of (state s j) c)) (length j)) k e

    module _ (ok : refusal s c ≡ 0) (size : ℕ) (i : List ℕ) (m : Recorded j (record_of (state s j) c) size i) where
      room : (k : ℕ) → room_refusal j (record_of (state s j) c) ≡ k → (size ≡ accept k (length (record_of (state s j) c)) 0) × (i ≡ accept k (added j (record_of (state s j) c)) j)
      room k e = (m.length-given ∙ rw e, m.journal-after ∙ rw e)

      -- 15
      pub change-full : size ≡ 0 → Does c (state s j) (changed 15 0 0) (state s i)
      change-full z = go (room_refusal j (record_of (state s j) c)) refl
        where
          go : (k : ℕ) → room_refusal j (record_of (state s j) c) ≡ k → Does c (state s j) (changed 15 0 0) (state s i)
          go zero e = absurd (record-some (sym (room 0 e).0 ∙ z))
          go (suc k) e = rw (room (suc k) e).1 (refused 15 (number_is ok ∙ fifteen k e) (λ d. omega arith))

      pub change-done : (size ≡ 0 → ⊥) → (slot : ℕ) → slot ≡ slot_given s c → (t : List ℕ) → t ≡ after s c → Does c (state s j) (changed 0 slot size) (state t i)
      unfolding change_answer after_change
      change-done h slot a t b = go (room_refusal j (record_of (state s j) c)) refl
        where
          go : (k : ℕ) → room_refusal j (record_of (state s j) c) ≡ k → Does c (state s j) (changed 0 slot size) (state t i)
          go zero e = rw (number_is ok ∙ e, a, b, (room 0 e).0, (room 0 e).1) (refl, refl)
          go (suc k) e = absurd (h (room (suc k) e).0)

-- the marked blocks, recorded
pub marks-ready : (s j m : List ℕ) → Ready s j → block_count s ≤ length m → Marks s m (block_count s)
marks-ready s j m w k = let z = sound s w.sound in record { whole = omega (arith, z.whole); blocks = z.most; marks = k }

module _ (s j m : List ℕ) (w : Ready s j) where
  long : (size : ℕ) → size ≡ 4 + 516 * length (marked_from m 0 (block_count s)) → length (record_marked s m) ≡ size
  long size e =
      let z = sound s w.sound in
      let low = rw sub-zero at (marked-below m 0 (block_count s) (omega arith)) in
      length-record (block_count s) s (omega (arith, z.whole)) z.most (marked_from m 0 (block_count s)) low ∙ sym e

  pub not-recorded : (size : ℕ) → size ≡ 4 + 516 * length (marked_from m 0 (block_count s)) → length j < used j + size
      → Recorded j (record_marked s m) 0 j
  unfolding room_refusal
  not-recorded size e h = let f = lt-leb (used j + size) (length j) h in record { length-given = rw (long size e, f); journal-after = rw (long size e, f) }

  pub now-recorded : (size : ℕ) → size ≡ 4 + 516 * length (marked_from m 0 (block_count s)) → used j + size ≤ length j
      → (new : List ℕ) → new ≡ added j (record_marked s m) → Recorded j (record_marked s m) size new
  unfolding room_refusal
  now-recorded size e h new is =
      let f = le-leb (used j + size) (length j) h in
      record { length-given = rw (long size e, f); journal-after = rw (long size e, f) is }

-- recording the blocks that were marked as named is recording the change
pub recorded-named : (s j m none : List ℕ) (c : Change) → Ready s j → none ≡ zeros (length none) → block_count s ≤ length none → m ≡ marked none (named s c)
    → (size : ℕ) (new : List ℕ) → Recorded j (record_marked s m) size new → Recorded j (record_of (state s j) c) size new
unfolding record_of
recorded-named s j m none c w z room e size new r =
    let marks : m ≡ marked (zeros (length none)) (named s c) = e ∙ ap (λ (x : List ℕ). marked x (named s c)) z in
    let blocks : marked_from m 0 (block_count s) ≡ ascending (block_count s) (named s c) = rw marks (marked-ascending (block_count s) (length none) (named s c) room) in
    subst (λ (bs : List ℕ). Recorded j (record_bytes s bs) size new) blocks r
