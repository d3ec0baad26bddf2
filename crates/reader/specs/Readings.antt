-- A file read to its end (FORMAT.md, 7.3): "With nothing written to the image between, the reader's answers, taken into buffers of one byte or more until it
-- gives none, joined are the file's bytes."
use Rattle.std.specs.Prelude.{ℕ, ◌+◌, true, List, [], ◌∷◌, ◌≡◌, leb, eqb, length, take}
use Rattle.layout.specs.Lists.{every, joined}
use Rattle.layout.specs.Directory.{is_file, content}
use Rattle.layout.specs.Paths.{entry_of}
use Rattle.layout.specs.Looks.{ReadAnswer, read}

-- the answers of one read after the other, the first at a position, into these buffers
unfoldable pub answers : (s path : List ℕ) → ℕ → List (List ℕ) → List ReadAnswer
answers s path position [] = []
answers s path position (b ∷ bs) = let r = read s path position b in r ∷ answers s path (position + r.count) bs

-- the bytes that an answer gives: the first `count` of its buffer
abbrev pub given : ReadAnswer → List ℕ
given r = take r.count r.buffer

-- the count of the last answer, or c if there is none
abbrev pub last_count : ℕ → List ReadAnswer → ℕ
last_count c [] = c
last_count c (r ∷ rs) = last_count r.count rs

abbrev pub WholeFileTheorem : Type 0
WholeFileTheorem =
    (s path : List ℕ) (buffers : List (List ℕ))
    → every (λ (b : List ℕ). leb 1 (length b)) buffers ≡ true
    → every (λ (r : ReadAnswer). eqb r.number 0) (answers s path 0 buffers) ≡ true
    → last_count 1 (answers s path 0 buffers) ≡ 0
    → joined given (answers s path 0 buffers) ≡ content s (entry_of is_file s path)
