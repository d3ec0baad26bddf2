-- Runs in which pieces are appended too (FORMAT.md, 9.9): "for demand 3 it is that write". So a piece is, in a run, the write that it is, and an empty one is
-- none.
use Rattle.std.specs.Prelude.{ℕ, ◌+◌, cond, List, [], ◌∷◌, eqb}
use Rattle.journal.specs.Run.{Call, change, Answer, changed, undone, checked, found, filled, shown, described, entered, got, State}
use Rattle.journal.specs.Kinds.{Kind, FreeRunTheorem}
use Rattle.journal.specs.Back.{Tell}
use Rattle.append.specs.Append.{piece_write, after_append, append_answer}

-- what an append brings
pub record Piece : Type 0 where
  pub path : List ℕ
  pub bytes : List ℕ
  pub time : ℕ

-- the calls that it is
unfoldable pub piece_calls : State → (path piece : List ℕ) → ℕ → List Call
piece_calls p path [] time = []
piece_calls p path (b ∷ bs) time = change (piece_write p path (b ∷ bs) time) ∷ []

-- the pieces; none ends a run
abbrev pub pieces : Kind
pieces = record {
  Further = Piece;
  Reply = Answer;
  after = λ p a. after_append p a.path a.bytes a.time;
  reply = λ p a. append_answer p a.path a.bytes a.time;
  calls = λ p a. piece_calls p a.path a.bytes a.time;
  Fits = λ p a. Unit {0};
}

abbrev pub PieceRunTheorem : Type 0
PieceRunTheorem = FreeRunTheorem pieces

-- how a program counts the changes that stand: one more where the answer has a record's length, which an empty piece and a refused one have not
abbrev pub piece_tell : Tell pieces
piece_tell k (changed number slot size) = cond (eqb size 0) k (k + 1)
piece_tell k (undone number size) = k
piece_tell k (checked number) = k
piece_tell k (found a) = k
piece_tell k (filled a) = k
piece_tell k (shown x bytes) = k
piece_tell k (described a) = k
piece_tell k (entered a) = k
piece_tell k (got a) = k
