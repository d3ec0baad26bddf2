-- Move: within a directory, to another one, every refusal of its own, and its undo. One table in three parts, proved by computing the definitions.
use Prim.Native.Nat.{ℕ}
use mathlib.Core.List.{List, [], ◌∷◌, ◌++◌, map}
use lib.ListN.{replicate}
use Rattle.layout.specs.Bytes.{part}
use Rattle.layout.specs.Check.{check}
use Rattle.store.specs.Change.{Change, create, write, delete, create_directory, move, named, refusal, after}
use Rattle.journal.specs.Journal.{started}
use Rattle.journal.specs.Run.{change, undo, look, find_file, read_file, State, step, answer}
use Rattle.samples.proofs.Rules.{rules}
use Rattle.samples.proofs.Samples.{AsExpected, formatted_as, pattern, numbers, samples}

-- the path of one-byte names, and a create of its file
way : List ℕ → List ℕ
way [] = []
way (x ∷ xs) = 47 ∷ x ∷ way xs

file : List ℕ → Change
file xs = create (way xs) 0x60 1 2 3 0 2000

-- n = 9, root blocks 2 and 3; in its slots 1 to 4 the directory /E (69) of one block, 4, and the files /A (65), /B (66) and /C (67): the entries of /A and
-- /B are at 1,280 and 1,408, that of /C at 1,536. /A has 3 bytes in block 5. (A table computes it once, in a `let`.)
image : List ℕ
image =
    let s₀ = after (formatted_as 9 2) (create_directory (way (69 ∷ [])) 0x20 1 2 3 0 2000 1) in
    let s₁ = after (after s₀ (file (65 ∷ []))) (file (66 ∷ [])) in
    after (after s₁ (file (67 ∷ []))) (write (way (65 ∷ [])) 0 (pattern 3) 3000)

-- with a journal just started; what a move answers on it, with the blocks that it names
begun : List ℕ → State
begun s = record { image = s; journal = started 1100 }

moved : List ℕ → List ℕ → List ℕ → List ℕ
moved s from to = numbers (answer (begun s) (change (move (way from) (way to)))) ++ named s (move (way from) (way to))

pub within : List (List ℕ × List ℕ)
within =
    let s = image in
    let renamed = after s (move (way (65 ∷ [])) (way (68 ∷ []))) in
    let less = after s (delete (way (66 ∷ []))) in
    let lower = after less (move (way (67 ∷ [])) (way (68 ∷ []))) in
    -- its own slot is the lowest: it stays there, with the new name
    (moved s (65 ∷ []) (68 ∷ []), 0 ∷ 2 ∷ 520 ∷ 2 ∷ 2 ∷ [])
    ∷ (part renamed 1280 128, part s 1280 48 ++ (68 ∷ replicate 79 0))
    ∷ (check renamed ∷ refusal renamed (delete (way (65 ∷ []))) ∷ [], 0 ∷ 10 ∷ [])
    -- a lower slot is free: it goes there, and its old one is zeroed
    ∷ (moved less (67 ∷ []) (68 ∷ []), 0 ∷ 3 ∷ 1036 ∷ 3 ∷ 2 ∷ [])
    ∷ (part lower 1408 128, part s 1536 48 ++ (68 ∷ replicate 79 0))
    ∷ (part lower 1536 128, replicate 128 0)
    ∷ (check lower ∷ [], 0 ∷ [])
    ∷ []

pub across : List (List ℕ × List ℕ)
across =
    let s = image in
    let there = step (begun s) (change (move (way (65 ∷ [])) (way (69 ∷ 90 ∷ [])))) in
    let full = after (after s (file (69 ∷ 88 ∷ []))) (file (69 ∷ 89 ∷ [])) in
    -- to another directory, with its bytes; undo brings it back
    (moved s (65 ∷ []) (69 ∷ 90 ∷ []), 0 ∷ 1 ∷ 1036 ∷ 2 ∷ 4 ∷ [])
    ∷ (check there.image ∷ numbers (answer there (look (find_file (way (69 ∷ 90 ∷ []))))), 0 ∷ 0 ∷ 1 ∷ 3 ∷ 1 ∷ [])
    ∷ (numbers (answer there (look (read_file (way (69 ∷ 90 ∷ [])) 0 (replicate 3 7)))), 0 ∷ 3 ∷ pattern 3)
    ∷ ((step there undo).image, s)
    -- a full directory: no slot for another file, but its own ones may be renamed
    ∷ (refusal full (move (way (65 ∷ [])) (way (69 ∷ 90 ∷ []))) ∷ [], 13 ∷ [])
    ∷ (moved full (69 ∷ 89 ∷ []) (69 ∷ 90 ∷ []), 0 ∷ 2 ∷ 520 ∷ 4 ∷ 4 ∷ [])
    ∷ []

pub refusals : List (List ℕ × List ℕ)
refusals =
    let s = image in
    let a = way (65 ∷ []) in
    let d = way (68 ∷ []) in
    let deep = way (replicate 10 68) in
    -- 9 of either path, also where the other is too deep; 17 of either
    (map (refusal s) (move [] d ∷ move a [] ∷ move deep [] ∷ move [] deep ∷ move deep d ∷ move a deep ∷ []), 9 ∷ 9 ∷ 9 ∷ 9 ∷ 17 ∷ 17 ∷ [])
    -- 10: no file, a directory, a missing part, a path through a file
    ∷ (map (refusal s) (move d a ∷ move (way (69 ∷ [])) d ∷ move a (way (68 ∷ 65 ∷ [])) ∷ move a (way (66 ∷ 65 ∷ [])) ∷ []), 10 ∷ 10 ∷ 10 ∷ 10 ∷ [])
    -- 11: a file, a directory, itself
    ∷ (map (refusal s) (move a (way (66 ∷ [])) ∷ move a (way (69 ∷ [])) ∷ move a a ∷ []), 11 ∷ 11 ∷ 11 ∷ [])
    ∷ []

within-holds : AsExpected within
unfolding within moved begun image way file samples rules
within-holds = tt

across-holds : AsExpected across
unfolding across moved begun image way file samples rules
across-holds = tt

refusals-hold : AsExpected refusals
unfolding refusals image way file samples rules
refusals-hold = tt

pub move-cases : AsExpected within × AsExpected across × AsExpected refusals
move-cases = (within-holds, across-holds, refusals-hold)
