-- What is promised of append (FORMAT.md, 9.9).
use Prim.Native.Nat.{ℕ}
use mathlib.Core.Path.{◌≡◌}
use mathlib.Core.Logic.{◌≢◌}
use mathlib.Core.List.{List, []}
use lib.ListN.{length}
use Rattle.layout.specs.Directory.{is_file}
use Rattle.layout.specs.Paths.{entry_of}
use Rattle.volume.specs.Write.{write_at_refusal}
use Rattle.journal.specs.Run.{State}
use Rattle.append.specs.Append.{file_end}
use Rattle.append.specs.Pieces.{AllAccepted, joined_pieces, PiecesTheorem}
use Rattle.append.specs.Runs.{PieceRunTheorem}
use Rattle.append.proofs.Laws.Runs as runs
use Rattle.append.proofs.Laws.Pieces as pieces

-- PIECES CUT ANYWHERE, all accepted and not all empty, leave the image that one write of the joined bytes at the file's end leaves, of whatever length; and
-- that write is accepted but for the limit on its length.
pub pieces-joined : PiecesTheorem
pieces-joined = pieces.pieces-joined

pub pieces-accepted : (p : State) (path : List ℕ) (xs : List (List ℕ)) (time : ℕ) → AllAccepted p path xs time → joined_pieces xs ≢ []
    → write_at_refusal p.image (entry_of is_file p.image path) (file_end p.image path) (length (joined_pieces xs)) ≡ 0
pieces-accepted = pieces.pieces-accepted

-- DEMAND 3 over runs with pieces: image and whole journal are those of the run with the pieces as writes and of the replay, every answer the replay's.
pub every-piece-run : PieceRunTheorem
every-piece-run = runs.every-piece-run
