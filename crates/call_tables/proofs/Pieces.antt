-- Appended pieces (FORMAT.md, 9.9): the rows of B.2 with n = 8 for 16, worked out by hand, and computed from the definitions.
use Prim.Native.Nat.{ℕ}
use mathlib.Core.List.{List, [], ◌∷◌, ◌++◌}
use lib.ListN.{take}
use Rattle.layout.specs.Bytes.{be32}
use Rattle.store.specs.Change.{write}
use Rattle.journal.specs.Journal.{used, started}
use Rattle.journal.specs.Run.{change, State, step}
use Rattle.append.specs.Append.{file_end, piece_write, append_refusal, after_append, append_answer}
use Rattle.samples.proofs.Rules.{rules}
use Rattle.samples.proofs.Samples.{AsExpected, formatted_as, pattern, in_root, file_a, create_file, write_a, numbers, samples}

-- opens the definitions of an append, as rules does those below it
unfoldable append_rules : Unit {0}
unfolding file_end piece_write append_refusal after_append append_answer
append_rules = tt

-- n = 8, d = 2, an empty file A, its entry at 1,152; then 513 bytes appended; then one byte (p₁, p₂)
p₀ : State
p₀ = step (record { image = formatted_as 8 2; journal = started 4200 }) (change (create_file 65))

-- the first is the write of the bytes at 0; an empty piece adds no record and leaves all; one byte more has a record of blocks 2 and 5
pub pieces : List (List ℕ × List ℕ)
pieces =
    let start = p₀ in
    let p₁ = after_append start file_a (pattern 513) 3000 in
    let p₂ = after_append p₁ file_a (7 ∷ []) 3000 in
    let q = step start (change (write_a 0 513)) in
    let none = after_append p₁ file_a [] 4000 in
    (numbers (append_answer start file_a (pattern 513) 3000) ++ numbers (append_answer p₁ file_a [] 4000) ++ numbers (append_answer p₁ file_a (7 ∷ []) 3000), 0 ∷ 0 ∷ 2584 ∷ 0 ∷ 0 ∷ 0 ∷ 0 ∷ 0 ∷ 1036 ∷ [])
    ∷ (p₁.image ++ p₁.journal, q.image ++ q.journal)
    ∷ (none.image ++ none.journal, p₁.image ++ p₁.journal)
    ∷ (used p₁.journal ∷ used p₂.journal ∷ be32 p₂.image 1160 ∷ [], 3109 ∷ 4145 ∷ 514 ∷ [])
    -- as one write of the joined bytes, but for the journal
    ∷ (p₂.image, (step start (change (write file_a 0 (pattern 513 ++ (7 ∷ [])) 3000))).image)
    ∷ []

-- a full journal stops a byte and no empty piece; the two free blocks are enough, but for the journal, or not: 15, 14; 9 by the write's limit; 10, and 8 and 1
-- before it, concern an empty piece too
pub refused : List (List ℕ × List ℕ)
refused =
    let start = p₀ in
    let p₁ = after_append start file_a (pattern 513) 3000 in
    let p₂ = after_append p₁ file_a (7 ∷ []) 3000 in
    let full : State = record { image = p₂.image; journal = take 4145 p₂.journal } in
    (append_refusal full file_a [] 3000 ∷ append_refusal full file_a (7 ∷ []) 3000 ∷ [], 0 ∷ 15 ∷ [])
    ∷ (append_refusal p₂ file_a (pattern 1534) 3000 ∷ append_refusal p₂ file_a (pattern 1535) 3000 ∷ append_refusal p₂ file_a (pattern 4097) 3000 ∷ [], 15 ∷ 14 ∷ 9 ∷ [])
    ∷ (
      append_refusal p₂ (in_root 66) [] 3000 ∷ append_refusal (record { image = p₂.image; journal = [] }) (in_root 66) [] 3000 ∷ append_refusal (record { image = []; journal = [] }) (in_root 66) [] 3000 ∷ [],
      10 ∷ 8 ∷ 1 ∷ [],
    )
    ∷ []

pieces-hold : AsExpected pieces
unfolding pieces p₀ append_rules samples rules
pieces-hold = tt

refused-hold : AsExpected refused
unfolding refused p₀ append_rules samples rules
refused-hold = tt

pub piece-cases : AsExpected pieces × AsExpected refused
piece-cases = (pieces-hold, refused-hold)
