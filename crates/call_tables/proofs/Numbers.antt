-- The table as numbers (FORMAT.md, 12): loads and stores, every question and every change, worked out by hand, and computed from the definitions.
use Prim.Native.Nat.{ℕ}
use mathlib.Core.Bool.{Bool, cond}
use mathlib.Core.List.{List, [], ◌∷◌, ◌++◌}
use lib.ListN.{get_or, set, drop, replicate}
use Rattle.layout.specs.Lists.{last_or}
use Rattle.layout.specs.Table.{next, set_next, chain, ends_after, chain_ok, free_blocks, occupied, all_ones, rest_free}
use Rattle.layout.specs.Check.{all_chains, owned, table_ok}
use Rattle.volume.specs.Entries.{linked, taken, grown, freed, released}
use Rattle.volume.specs.Search.{lowest_free}
use Rattle.store.specs.Change.{after}
use Rattle.chain_table.specs.Numbers.{value_in, entries_of, stored, linked_in, taken_in, freed_in, grown_in, released_in}
use Rattle.chain_table.specs.Transfer.{table_refusal, load_table, store_table}
use Rattle.samples.proofs.Rules.{rules}
use Rattle.samples.proofs.Samples.{AsExpected, formatted_as, create_file, write_a, samples}

-- n = 8, d = 2: root blocks 2 and 3, file A of 513 bytes in blocks 4 and 5. (A table computes it once, in a `let`.)
image : List ℕ
image = after (after (formatted_as 8 2) (create_file 65)) (write_a 0 513)

entries : List ℕ
entries = 1 ∷ 1 ∷ 3 ∷ 1 ∷ 5 ∷ 1 ∷ 0 ∷ 0 ∷ []

loaded : List ℕ → List ℕ → List ℕ
loaded image xs = let a = load_table image xs in a.number ∷ a.numbers

kept : List ℕ → List ℕ → List ℕ
kept image xs = let a = store_table image xs in a.number ∷ a.image

-- eight numbers; seven and nine: 21; a damaged image before 21; a store of the image's own numbers, and of one that differs
pub transfers : List (List ℕ × List ℕ)
transfers =
    let s = image in
    (loaded s (replicate 8 9), 0 ∷ entries)
    ∷ (loaded s (replicate 7 9) ++ loaded s (replicate 9 9) ++ loaded (drop 1 s) [], 21 ∷ (replicate 7 9 ++ (21 ∷ (replicate 9 9 ++ (1 ∷ [])))))
    ∷ (kept s entries, 0 ∷ s)
    ∷ (kept s (1 ∷ 1 ∷ 3 ∷ 1 ∷ 5 ∷ 1 ∷ 0 ∷ 258 ∷ []), 0 ∷ set_next s 7 258)
    ∷ (kept s (drop 1 entries), 21 ∷ s)
    ∷ []

pub transfers-hold : AsExpected transfers
unfolding transfers loaded kept entries image entries_of stored table_refusal load_table store_table samples rules
transfers-hold = tt

-- THE QUESTIONS, of the values of the numbers and of the image: 1 is yes, 0 no. The last of them is stage 6 of the image's own chains.
told : Bool → ℕ
told b = cond b 1 0

asked : List ℕ → (ℕ → ℕ) → List (List ℕ)
asked s v =
    (v 4 ∷ v 7 ∷ [])
    ∷ chain v 4 2
    ∷ (get_or (chain v 4 2) 1 0 ∷ get_or (chain v 4 2) 2 0 ∷ last_or 0 (chain v 4 2) ∷ last_or 0 (chain v 4 0) ∷ [])
    ∷ (told (ends_after v 8 4 2) ∷ told (ends_after v 8 4 1) ∷ told (chain_ok v 8 0 0) ∷ told (ends_after v 8 1 1) ∷ [])
    ∷ (occupied v 8 ∷ free_blocks v 8)
    ∷ (lowest_free v 0 8 ∷ lowest_free v 7 8 ∷ lowest_free v 8 8 ∷ [])
    ∷ (told (all_ones v 0 2) ∷ told (all_ones v 0 3) ∷ [])
    ∷ (told (rest_free v (0 ∷ 0 ∷ 1 ∷ 1 ∷ 1 ∷ 1 ∷ []) 2 6) ∷ told (rest_free v (0 ∷ 0 ∷ 1 ∷ 1 ∷ 1 ∷ []) 2 6) ∷ [])
    ∷ owned v (all_chains s)
    ∷ (told (table_ok v 8 (all_chains s)) ∷ told (table_ok v 8 []) ∷ [])
    ∷ []

answered : List (List ℕ)
answered =
    (5 ∷ 0 ∷ [])
    ∷ (4 ∷ 5 ∷ [])
    ∷ (5 ∷ 0 ∷ 5 ∷ 0 ∷ [])
    ∷ (1 ∷ 0 ∷ 1 ∷ 0 ∷ [])
    ∷ (6 ∷ 6 ∷ 7 ∷ [])
    ∷ (6 ∷ 7 ∷ 8 ∷ [])
    ∷ (1 ∷ 0 ∷ [])
    ∷ (1 ∷ 0 ∷ [])
    ∷ (2 ∷ 3 ∷ 4 ∷ 5 ∷ [])
    ∷ (1 ∷ 0 ∷ [])
    ∷ []

beside : List (List ℕ) → List (List ℕ) → List (List ℕ × List ℕ)
beside [] ys = []
beside (x ∷ xs) [] = []
beside (x ∷ xs) (y ∷ ys) = (x, y) ∷ beside xs ys

pub questions : List (List ℕ × List ℕ)
questions = let s = image in beside (asked s (value_in entries)) answered ++ beside (asked s (next s)) answered

pub questions-hold : AsExpected questions
unfolding questions beside asked answered told entries image lowest_free samples rules
questions-hold = tt

-- THE CHANGES, on the numbers and then on the image: set, link (behind no block too), take, free; blocks of a list taken and freed in turn
changed_to : List ℕ → List ℕ → List ℕ → List ℕ × List ℕ
changed_to xs image expected = (xs ++ entries_of (next image) 8, expected ++ expected)

pub changes : List (List ℕ × List ℕ)
changes =
    let s = image in
    changed_to (set entries 7 258) (set_next s 7 258) (1 ∷ 1 ∷ 3 ∷ 1 ∷ 5 ∷ 1 ∷ 0 ∷ 258 ∷ [])
    ∷ changed_to (linked_in entries 5 6) (linked s 5 6) (1 ∷ 1 ∷ 3 ∷ 1 ∷ 5 ∷ 6 ∷ 0 ∷ 0 ∷ [])
    ∷ changed_to (linked_in entries 0 6) (linked s 0 6) entries
    ∷ changed_to (taken_in entries 5 6) (taken s 8 5 6) (1 ∷ 1 ∷ 3 ∷ 1 ∷ 5 ∷ 6 ∷ 1 ∷ 0 ∷ [])
    ∷ changed_to (freed_in entries 5) (freed s 8 5) (1 ∷ 1 ∷ 3 ∷ 1 ∷ 5 ∷ 0 ∷ 0 ∷ 0 ∷ [])
    ∷ changed_to (grown_in entries 5 (6 ∷ 7 ∷ [])) (grown s 8 5 (6 ∷ 7 ∷ [])) (1 ∷ 1 ∷ 3 ∷ 1 ∷ 5 ∷ 6 ∷ 7 ∷ 1 ∷ [])
    ∷ changed_to (released_in entries (4 ∷ 5 ∷ [])) (released s 8 (4 ∷ 5 ∷ [])) (1 ∷ 1 ∷ 3 ∷ 1 ∷ 0 ∷ 0 ∷ 0 ∷ 0 ∷ [])
    ∷ []

pub changes-hold : AsExpected changes
unfolding changes changed_to linked_in taken_in freed_in grown_in released_in entries_of entries image samples rules
changes-hold = tt
