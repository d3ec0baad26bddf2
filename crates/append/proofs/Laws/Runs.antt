-- A piece is the write that it is, and with that the theorem over runs with pieces.
use Prim.Native.Nat.{ℕ, zero, suc, ◌+◌, ◌*◌, ◌≤◌}
use mathlib.Core.List.{List, [], ◌∷◌, ◌++◌}
use mathlib.Core.Path.{◌≡◌, refl}
use native.Mathlib.Omega.{arith}
use lib.ListN.{length, length-append}
use borrow.Author.Tests.{ne_eqb}
use Rattle.layout.specs.Lists.{joined}
use Rattle.layout.specs.Bytes.{bytes4, block}
use Rattle.layout.specs.Geometry.{block_count}
use Rattle.layout.proofs.Laws.Bytes.{length-bytes4}
use Rattle.store.specs.Change.{Change, named}
use Rattle.journal.specs.Journal.{ascending, record_bytes}
use Rattle.journal.specs.Run.{State, record_of, change_refusal, change_answer, change, step, run}
use Rattle.journal.specs.Replay.{replayed, standing_after, standing}
use Rattle.journal.specs.Kinds.{StandsFor}
use Rattle.journal.specs.Back.{TellsRight}
use Rattle.journal.proofs.Theorems.{every-free-run}
use Rattle.append.specs.Append.{piece_write, after_append, append_answer}
use Rattle.append.specs.Runs.{piece_calls, pieces, piece_tell, PieceRunTheorem}

piece-run : (p : State) (path piece : List ℕ) (time : ℕ) → after_append p path piece time ≡ run p (piece_calls p path piece time)
unfolding after_append piece_calls run step
piece-run p path [] time = refl
piece-run p path (b ∷ bs) time = refl

pub pieces-stand : StandsFor pieces
pieces-stand p m a f = piece-run p a.path a.bytes a.time

pub every-piece-run : PieceRunTheorem
every-piece-run = every-free-run pieces pieces-stand (λ p a. tt)

-- THE COUNT: a record is never empty, so its length tells that a change stands more
record-some : (p : State) (c : Change) → 4 ≤ length (record_of p c)
unfolding record_of record_bytes
record-some p c =
    let bs : List ℕ = ascending (block_count p.image) (named p.image c) in
    let l : length (bytes4 (4 + 516 * length bs) ++ joined (λ b. bytes4 b ++ block p.image b) bs) ≡ length (bytes4 (4 + 516 * length bs)) + length (joined (λ b. bytes4 b ++ block p.image b) bs) =
    length-append (bytes4 (4 + 516 * length bs)) (joined (λ b. bytes4 b ++ block p.image b) bs) in
    omega (arith, l, length-bytes4 (4 + 516 * length bs))

write-told : (start : State) (changes : List Change) (c : Change) → piece_tell (length changes) (change_answer (replayed start changes) c) ≡ length (standing_after start changes (change c))
unfolding change_answer standing_after
write-told start changes c = go (change_refusal (replayed start changes) c) refl
  where
    go : (r : ℕ) → change_refusal (replayed start changes) c ≡ r → piece_tell (length changes) (change_answer (replayed start changes) c) ≡ length (standing_after start changes (change c))
    go zero e =
        let some : length (record_of (replayed start changes) c) ≡ 0 → ⊥ = λ z. omega (arith, record-some (replayed start changes) c) in
        rw (e, ne_eqb (length (record_of (replayed start changes) c)) 0 some) (omega arith)
    go (suc r) e = rw e

piece-told : (start : State) (changes : List Change) (path piece : List ℕ) (time : ℕ)
    → piece_tell (length changes) (append_answer (replayed start changes) path piece time) ≡ length (standing start changes (piece_calls (replayed start changes) path piece time))
unfolding append_answer piece_calls standing
piece-told start changes path [] time = refl
piece-told start changes path (b ∷ bs) time = write-told start changes (piece_write (replayed start changes) path (b ∷ bs) time)

pub pieces-told : TellsRight pieces piece_tell
pieces-told start changes a = piece-told start changes a.path a.bytes a.time
