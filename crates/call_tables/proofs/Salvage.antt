-- Salvage (FORMAT.md, 16): the rows of B.2 with n = 8 for 16, and one for each further code; worked out by hand, and computed from the definitions.
use Prim.Native.Nat.{ℕ}
use mathlib.Core.List.{List, [], ◌∷◌, ◌++◌, map}
use lib.ListN.{drop, replicate}
use Rattle.layout.specs.Bytes.{bytes4, splice}
use Rattle.layout.specs.Table.{set_next}
use Rattle.volume.specs.Entries.{set_occupied}
use Rattle.store.specs.Change.{write, set_attributes, after}
use Rattle.salvage.specs.Salvage.{salvage_refusal, claimable, ends, ended, take_file, zero_entry, skip, take_slot, take_slots, end_right, end_put, one_at, blanked, free_at, in_turn, table_put, counts_put, slots_done, salvage_image, salvage_codes, salvage}
use Rattle.samples.proofs.Rules.{rules}
use Rattle.samples.proofs.Samples.{AsExpected, formatted_as, pattern, in_root, file_a, create_file, write_a, samples}

-- opens the definitions of salvage, as rules does those below it
unfoldable salvage_rules : Unit {0}
unfolding salvage_refusal claimable ends ended take_file zero_entry skip take_slot take_slots end_right end_put one_at blanked free_at in_turn table_put counts_put slots_done salvage_image salvage_codes salvage
salvage_rules = tt

-- n = 8, d = 2: root blocks 2 and 3, file A of 513 bytes in slot 1 (at 1,152) and blocks 4 and 5, blocks 6 and 7 free; the end slot is at 1,920
-- (a table computes it once, in a `let`)
image : List ℕ
image = after (after (formatted_as 8 2) (create_file 65)) (write_a 0 513)

-- number, report and image after a salvage with a report of one byte more than there are slots
salvaged : List ℕ → List ℕ
salvaged s = let a = salvage s (replicate 9 7) in a.number ∷ (a.report ++ a.image)

-- what is expected of an accepted one: the codes of the eight slots, and the image
done : List ℕ → List ℕ → List ℕ
done codes s = 0 ∷ (codes ++ (7 ∷ s))

-- of a sound image nothing changes; a chain gets its end; a chain broken before its end, so that the last block is freed and the first was free; a
-- loop, so that both are freed
pub chains : List (List ℕ × List ℕ)
chains =
    let s₀ = image in
    (salvaged s₀, done (replicate 8 0) s₀)
    ∷ (salvaged (set_next s₀ 5 0), done (0 ∷ 3 ∷ replicate 6 0) s₀)
    ∷ (salvaged (set_next s₀ 4 0), done (0 ∷ 2 ∷ replicate 6 0) (splice (formatted_as 8 2) 2048 (pattern 512)))
    ∷ (salvaged (set_next s₀ 4 4), done (0 ∷ 2 ∷ replicate 6 0) (formatted_as 8 2))
    ∷ []

-- the end slot's type; the same type, a directory's, in slot 1: 5; a report of seven bytes: 9; 1 to 4
pub refusals : List (List ℕ × List ℕ)
refusals =
    let s₀ = image in
    (salvaged (splice s₀ 1920 (0x20 ∷ [])), done (replicate 7 0 ++ (3 ∷ [])) s₀)
    ∷ (salvaged (splice s₀ 1152 (0x20 ∷ [])), 5 ∷ (replicate 9 7 ++ splice s₀ 1152 (0x20 ∷ [])))
    ∷ (map (salvage_refusal s₀) (7 ∷ 8 ∷ []), 9 ∷ 0 ∷ [])
    ∷ (map (λ s. salvage_refusal s 0) (drop 1 s₀ ∷ splice s₀ 0 (0 ∷ []) ∷ splice s₀ 12 (bytes4 9) ∷ splice s₀ 1028 (bytes4 3) ∷ []), 1 ∷ 2 ∷ 3 ∷ 4 ∷ [])
    ∷ []

-- 1: an equal name, and B's block is freed; 2: the last block of A is B's too, and A has it; 4: the attributes on the file's own block, also where the
-- file's chain gets its end; without a code: entries 0 and 7, a padding entry and the counts. s₁ is the same image with attributes of one block, 6; s₂ with a
-- file B of one block, 6, in slot 2 (at 1,280).
pub codes : List (List ℕ × List ℕ)
codes =
    let s₀ = image in
    let s₁ = after s₀ (set_attributes file_a (pattern 512)) in
    let s₂ = after (after s₀ (create_file 66)) (write (in_root 66) 0 (pattern 10) 9) in
    (salvaged (splice s₂ 1328 (65 ∷ [])), done (0 ∷ 0 ∷ 1 ∷ replicate 5 0) s₀)
    ∷ (salvaged (splice s₂ 1284 (bytes4 5)), done (0 ∷ 0 ∷ 2 ∷ replicate 5 0) s₀)
    ∷ (salvaged (set_next (splice s₁ 1184 (bytes4 4)) 5 7), done (0 ∷ 4 ∷ replicate 6 0) s₀)
    ∷ (salvaged (set_next (set_next (set_next (set_occupied s₀ 8 3) 0 0) 7 1) 100 1), done (replicate 8 0) s₀)
    ∷ []

chains-hold : AsExpected chains
unfolding chains salvaged done image salvage_rules samples rules
chains-hold = tt

refusals-hold : AsExpected refusals
unfolding refusals salvaged done image salvage_rules samples rules
refusals-hold = tt

codes-hold : AsExpected codes
unfolding codes salvaged done image salvage_rules samples rules
codes-hold = tt

pub salvage-cases : AsExpected chains × AsExpected refusals × AsExpected codes
salvage-cases = (chains-hold, refusals-hold, codes-hold)
