-- Append (FORMAT.md, 9.9): "a non-empty piece is answered as 01's write of it at the file's end as it then stands, and for demand 3 it is that write". "An
-- empty piece adds no record, so 15 doesn't concern it, and its other refusals are that write's; an accepted empty piece does nothing, not even the time."
use Rattle.std.specs.Prelude.{ℕ, List, [], ◌∷◌}
use Rattle.layout.specs.Refusals.{require, first_of, accept}
use Rattle.layout.specs.Geometry.{block_count}
use Rattle.layout.specs.Check.{check}
use Rattle.layout.specs.Directory.{size_of, is_file}
use Rattle.layout.specs.Paths.{file_refusal, entry_of}
use Rattle.store.specs.Change.{Change, write, refusal}
use Rattle.journal.specs.Journal.{well_formed}
use Rattle.journal.specs.Run.{State, Answer, changed, change_refusal, after_change, change_answer}

-- where the file of a path ends; 0 where the path shows no file
unfoldable pub file_end : List ℕ → List ℕ → ℕ
file_end s path = accept (file_refusal s path) (size_of s (entry_of is_file s path)) 0

-- the write that a piece is
unfoldable pub piece_write : State → (path piece : List ℕ) → ℕ → Change
piece_write p path piece time = write path (file_end p.image path) piece time

unfoldable pub append_refusal : State → (path piece : List ℕ) → ℕ → ℕ
append_refusal p path [] time =
    first_of (check p.image) (require (well_formed p.journal (block_count p.image)) 8 (refusal p.image (piece_write p path [] time)))
append_refusal p path (b ∷ bs) time = change_refusal p (piece_write p path (b ∷ bs) time)

unfoldable pub after_append : State → (path piece : List ℕ) → ℕ → State
after_append p path [] time = p
after_append p path (b ∷ bs) time = after_change p (piece_write p path (b ∷ bs) time)

unfoldable pub append_answer : State → (path piece : List ℕ) → ℕ → Answer
append_answer p path [] time = changed (append_refusal p path [] time) 0 0
append_answer p path (b ∷ bs) time = change_answer p (piece_write p path (b ∷ bs) time)
