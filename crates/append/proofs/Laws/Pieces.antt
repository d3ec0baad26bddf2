-- Pieces appended one after the other leave what one append of the joined bytes leaves.
use Prim.Native.Nat.{ℕ, ◌≤◌}
use mathlib.Core.Path.{◌≡◌, refl, sym, ap, ◌∙◌, subst}
use mathlib.Core.List.{List, [], ◌∷◌, ◌++◌, append-nil}
use mathlib.Core.Logic.{◌⊎◌, inl, inr, ⊎_elim, ◌≢◌}
use native.Mathlib.Omega.{arith}
use borrow.Author.Tests.{le-leb}
use lib.ListN.{length}
use Rattle.layout.specs.Geometry.{block_count}
use Rattle.layout.specs.Table.{next, free_blocks}
use Rattle.layout.specs.Directory.{size_of, is_file}
use Rattle.layout.specs.Check.{check}
use Rattle.layout.specs.Paths.{entry_of, file_refusal}
use Rattle.volume.specs.Write.{needed, write_at, write_at_refusal, write_refusal}
use Rattle.volume.specs.Change as volume
use Rattle.store.specs.Change.{Change, write, refusal, after}
use Rattle.journal.specs.Journal.{well_formed}
use Rattle.journal.specs.Run.{State, change_refusal, after_change}
use Rattle.append.specs.Append.{file_end, piece_write, append_refusal, after_append}
use Rattle.append.specs.Pieces.{all_appended, AllAccepted, joined_pieces, PiecesTheorem}
use Rattle.layout.proofs.Laws.Tests.{first_of-zero, require-zero}
use Rattle.volume.proofs.Laws.Places.{write-given}
use Rattle.volume.proofs.Laws.Shown.{write-path}
use Rattle.journal.proofs.Laws.Undo.{accepted}
use Rattle.append.proofs.Laws.Ends.{Stands, held, ended}
use Rattle.append.proofs.Laws.Twice.{needed-is, room_joined, write-joined}

-- where an accepted path's file ends
end_is : (s path : List ℕ) → file_refusal s path ≡ 0 → file_end s path ≡ size_of s (entry_of is_file s path)
unfolding file_end
end_is s path r = rw r

-- an accepted piece: the image is sound, and the path is a file's
given : (p : State) (path x : List ℕ) (time : ℕ) → append_refusal p path x time ≡ 0
    → (check p.image ≡ 0) × (write_refusal p.image path (file_end p.image path) (length x) ≡ 0)
unfolding append_refusal piece_write refusal volume.refusal
given p path [] time r =
    let a = first_of-zero (check p.image) _ r in
    let b = require-zero (well_formed p.journal (block_count p.image)) 7 _ a.1 in
    (a.0, b.1)
given p path (b ∷ bs) time r =
    let a = accepted p (write path (file_end p.image path) (b ∷ bs) time) r in
    (a.sound, a.allowed)

piece-stands : (p : State) (path x : List ℕ) (time : ℕ) → append_refusal p path x time ≡ 0 → Stands p.image path (entry_of is_file p.image path)
piece-stands p path x time r =
    let g = given p path x time r in
    record { ok = g.0; there = (write-path p.image path g.0 (file_end p.image path) (length x) g.1).0; entry = refl }

-- there is room for it
piece-room : (p : State) (path x : List ℕ) (time : ℕ) → append_refusal p path x time ≡ 0
    → needed p.image (entry_of is_file p.image path) (size_of p.image (entry_of is_file p.image path)) (length x) ≤ length (free_blocks (next p.image) (block_count p.image))
piece-room p path x time r =
    let H = piece-stands p path x time r in
    subst (λ (i : ℕ). needed p.image (entry_of is_file p.image path) i (length x) ≤ length (free_blocks (next p.image) (block_count p.image))) (end_is p.image path H.there)
    (write-given p.image path (file_end p.image path) (length x) (given p path x time r).1).room

-- and it is the write at the end
changed-image : (p : State) (c : Change) → change_refusal p c ≡ 0 → (after_change p c).image ≡ after p.image c
unfolding after_change
changed-image p c r = rw r

piece-image : (p : State) (path : List ℕ) (b : ℕ) (bs : List ℕ) (time : ℕ) → append_refusal p path (b ∷ bs) time ≡ 0
    → (after_append p path (b ∷ bs) time).image ≡ write_at p.image (entry_of is_file p.image path) (size_of p.image (entry_of is_file p.image path)) (b ∷ bs) time
unfolding append_refusal after_append piece_write after volume.after
piece-image p path b bs time r =
    changed-image p (write path (file_end p.image path) (b ∷ bs) time) r
    ∙ ap (λ (i : ℕ). write_at p.image (entry_of is_file p.image path) i (b ∷ bs) time) (end_is p.image path (piece-stands p path (b ∷ bs) time r).there)

-- what pieces whose bytes joined are `all` make of s: there was room for all of them, and they are one write, or nothing
record Result (s s' : List ℕ) (e : ℕ) (all : List ℕ) (time : ℕ) : Type 0 where
  room : needed s e (size_of s e) (length all) ≤ length (free_blocks (next s) (block_count s))
  came : ((all ≡ []) × (s' ≡ s)) ⊎ (s' ≡ write_at s e (size_of s e) all time)

none : (s path : List ℕ) (e time : ℕ) → Stands s path e → Result s s e [] time
none s path e time H =
    record {
      room = let b = (held s path e _ _ H refl refl).count in let q = needed-is s e 0 b in omega arith;
      came = inl (refl, refl);
    }

-- a piece, and those after it
one_more : (s path : List ℕ) (e time : ℕ) (H : Stands s path e) (x : List ℕ) (room : needed s e (size_of s e) (length x) ≤ length (free_blocks (next s) (block_count s))) (all s'' : List ℕ)
    → Result (write_at s e (size_of s e) x time) s'' e all time → Result s s'' e (x ++ all) time
one_more s path e time H x room all s'' R =
    record {
      room = room_joined s path e H x time room all R.room;
      came = inr (⊎_elim (λ c. c.1 ∙ ap (λ (l : List ℕ). write_at s e (size_of s e) l time) (sym (ap (λ (l : List ℕ). x ++ l) c.0 ∙ append-nil x)))
          (λ c. c ∙ write-joined s path e H x time room all R.room) R.came);
    }

module _ (path : List ℕ) (time e : ℕ) where
  -- the first piece, on an image that is named
  first : (p : State) (b : ℕ) (bs s : List ℕ) → p.image ≡ s → Stands s path e → append_refusal p path (b ∷ bs) time ≡ 0
      → (needed s e (size_of s e) (length (b ∷ bs)) ≤ length (free_blocks (next s) (block_count s))) × ((after_append p path (b ∷ bs) time).image ≡ write_at s e (size_of s e) (b ∷ bs) time)
  first p b bs s q H r =
      subst (λ (t : List ℕ). Stands t path e
      → (needed t e (size_of t e) (length (b ∷ bs)) ≤ length (free_blocks (next t) (block_count t))) × ((after_append p path (b ∷ bs) time).image ≡ write_at t e (size_of t e) (b ∷ bs) time)) q
      (λ K. subst (λ (i : ℕ). (needed p.image i (size_of p.image i) (length (b ∷ bs)) ≤ length (free_blocks (next p.image) (block_count p.image)))
      × ((after_append p path (b ∷ bs) time).image ≡ write_at p.image i (size_of p.image i) (b ∷ bs) time)) K.entry
      (piece-room p path (b ∷ bs) time r, piece-image p path b bs time r)) H

  run : (pieces : List (List ℕ)) (p : State) (s : List ℕ) → p.image ≡ s → Stands s path e → AllAccepted p path pieces time → Result s (all_appended p path pieces time).image e (joined_pieces pieces) time
  unfolding all_appended AllAccepted joined_pieces after_append
  run [] p s q H acc = rw q (none s path e time H)
  run ([] ∷ xs) p s q H acc = run xs p s q H acc.1
  run ((b ∷ bs) ∷ xs) p s q H acc =
      let f = first p b bs s q H acc.0 in
      let K = (ended s path e H (b ∷ bs) time f.0).stands in
      one_more s path e time H (b ∷ bs) f.0 (joined_pieces xs) (all_appended (after_append p path (b ∷ bs) time) path xs time).image
      (run xs (after_append p path (b ∷ bs) time) (write_at s e (size_of s e) (b ∷ bs) time) f.1 K acc.1)

-- some piece is the first
head-stands : (p : State) (path : List ℕ) (pieces : List (List ℕ)) (time : ℕ) → AllAccepted p path pieces time → joined_pieces pieces ≢ [] → Stands p.image path (entry_of is_file p.image path)
unfolding AllAccepted joined_pieces
head-stands p path [] time acc ne = absurd (ne refl)
head-stands p path (x ∷ xs) time acc ne = piece-stands p path x time acc.0

pub pieces-joined : PiecesTheorem
pieces-joined p path pieces time acc ne =
    let H = head-stands p path pieces time acc ne in
    let R = run path time (entry_of is_file p.image path) pieces p p.image refl H acc in
    ⊎_elim (λ c. absurd (ne c.0))
    (λ c. c ∙ ap (λ (i : ℕ). write_at p.image (entry_of is_file p.image path) i (joined_pieces pieces) time) (sym (end_is p.image path H.there))) R.came

-- the rule without the limit accepts the one append
pub pieces-accepted : (p : State) (path : List ℕ) (pieces : List (List ℕ)) (time : ℕ) → AllAccepted p path pieces time → joined_pieces pieces ≢ []
    → write_at_refusal p.image (entry_of is_file p.image path) (file_end p.image path) (length (joined_pieces pieces)) ≡ 0
unfolding write_at_refusal
pieces-accepted p path pieces time acc ne =
    let H = head-stands p path pieces time acc ne in
    let R = run path time (entry_of is_file p.image path) pieces p p.image refl H acc in
    rw (end_is p.image path H.there, le-leb _ _ R.room) (rw (le-leb (size_of p.image (entry_of is_file p.image path)) (size_of p.image (entry_of is_file p.image path)) (omega arith)))
