-- Pieces of one file (FORMAT.md, 9.9): "With no other calls between and one time for all, pieces cut anywhere leave the same image as a single append of the
-- joined bytes would by 01's write rules with its 4,096 limit lifted, provided every piece is accepted and one at least is non-empty".
use Rattle.std.specs.Prelude.{ℕ, ◌≡◌, ◌≢◌, List, [], ◌∷◌, ◌++◌}
use Rattle.layout.specs.Directory.{is_file}
use Rattle.layout.specs.Paths.{entry_of}
use Rattle.volume.specs.Write.{write_at}
use Rattle.journal.specs.Run.{State}
use Rattle.append.specs.Append.{file_end, append_refusal, after_append}

-- one piece after the other, each accepted
unfoldable pub all_appended : State → (path : List ℕ) → List (List ℕ) → ℕ → State
all_appended p path [] time = p
all_appended p path (x ∷ xs) time = all_appended (after_append p path x time) path xs time

unfoldable pub AllAccepted : State → (path : List ℕ) → List (List ℕ) → ℕ → Type 0
AllAccepted p path [] time = Unit {0}
AllAccepted p path (x ∷ xs) time = (append_refusal p path x time ≡ 0) × AllAccepted (after_append p path x time) path xs time

unfoldable pub joined_pieces : List (List ℕ) → List ℕ
joined_pieces [] = []
joined_pieces (x ∷ xs) = x ++ joined_pieces xs

-- the image after one append of all bytes: the write's own rule (FORMAT.md, 9.2) at the file's end, of any length
abbrev pub appended_whole : List ℕ → (path bytes : List ℕ) → ℕ → List ℕ
appended_whole s path bytes time = write_at s (entry_of is_file s path) (file_end s path) bytes time

abbrev pub PiecesTheorem : Type 0
PiecesTheorem =
    (p : State) (path : List ℕ) (pieces : List (List ℕ)) (time : ℕ) → AllAccepted p path pieces time → joined_pieces pieces ≢ []
    → (all_appended p path pieces time).image ≡ appended_whole p.image path (joined_pieces pieces) time
