-- Attributes (L6), with freed blocks blank (L7): records, blocks and refusals worked out by hand, and computed from the definitions.
use Prim.Native.Nat.{ℕ}
use mathlib.Core.List.{List, [], ◌∷◌, ◌++◌, map}
use lib.ListN.{replicate}
use Rattle.layout.specs.Bytes.{be32, splice}
use Rattle.layout.specs.Table.{next}
use Rattle.layout.specs.Check.{check}
use Rattle.store.specs.Change.{Change, delete, set_attributes, clear_attributes, named, refusal, after}
use Rattle.journal.specs.Journal.{used, started, ascending}
use Rattle.journal.specs.Run.{change, read_attributes_of, step, answer, look_answer}
use Rattle.samples.proofs.Rules.{rules}
use Rattle.samples.proofs.Samples.{AsExpected, formatted_as, pattern, in_root, file_a, create_file, write_a, numbers, samples}

set : ℕ → Change
set count = set_attributes file_a (pattern count)

-- n = 16, d = 2, file A of 513 bytes in blocks 4 and 5. A set of 512 bytes takes block 6: its record has the directory block 2, block 0, the new block 6
-- and its table block 1, so 4 + 4 · 516 = 2,068 bytes, and the journal goes from 3,109 to 5,177
pub larger_volume : List (List ℕ × List ℕ)
larger_volume =
    let p₁ = step (record { image = formatted_as 16 2; journal = started 5200 }) (change (create_file 65)) in
    let p₂ = step p₁ (change (write_a 0 513)) in
    let p₃ = step p₂ (change (set 512)) in
    (numbers (answer p₂ (change (set 512))) ++ ascending 16 (named p₂.image (set 512)), 0 ∷ 0 ∷ 2068 ∷ 0 ∷ 1 ∷ 2 ∷ 6 ∷ [])
    ∷ (used p₃.journal ∷ check p₃.image ∷ next p₃.image 6 ∷ map (be32 p₃.image) (20 ∷ 24 ∷ 1184 ∷ 1188 ∷ []), 5177 ∷ 0 ∷ 1 ∷ 7 ∷ 9 ∷ 6 ∷ 1 ∷ [])
    ∷ []

-- n = 8, d = 2: the same file, its entry at 1,152, blocks 6 and 7 free; s₁ has attributes of one block, 6, s₂ of two, 6 and 7
-- (a table computes them once, in a `let`)
image : List ℕ
image = after (after (formatted_as 8 2) (create_file 65)) (write_a 0 513)

pub changes : List (List ℕ × List ℕ)
changes =
    let s₀ = image in
    let s₁ = after s₀ (set 512) in
    let s₂ = after s₁ (set 1024) in
    -- two blocks over one: the old block counts as free and is taken again
    (map (next s₂) (4 ∷ 5 ∷ 6 ∷ 7 ∷ []) ++ map (be32 s₂) (20 ∷ 1160 ∷ 1184 ∷ 1188 ∷ []) ++ (check s₂ ∷ []), 5 ∷ 1 ∷ 7 ∷ 1 ∷ 8 ∷ 513 ∷ 6 ∷ 2 ∷ 0 ∷ [])
    ∷ (ascending 8 (named s₁ (set 1024)) ++ ascending 8 (named s₂ (set 512)) ++ ascending 8 (named s₂ (clear_attributes file_a)), 0 ∷ 1 ∷ 2 ∷ 6 ∷ 7 ∷ 0 ∷ 1 ∷ 2 ∷ 6 ∷ 7 ∷ 0 ∷ 1 ∷ 2 ∷ 6 ∷ 7 ∷ [])
    -- one block over two: the other is zero again, and so is all after a clear; a clear of none names the directory block alone
    ∷ (after s₂ (set 512), s₁)
    ∷ (after s₂ (clear_attributes file_a), s₀)
    ∷ (ascending 8 (named s₀ (clear_attributes file_a)), 2 ∷ [])
    -- delete frees both chains
    ∷ (ascending 8 (named s₂ (delete file_a)), 0 ∷ 1 ∷ 2 ∷ 4 ∷ 5 ∷ 6 ∷ 7 ∷ [])
    ∷ (after s₂ (delete file_a), after s₀ (delete file_a))
    -- 9: no bytes, not whole blocks, also where they are too many; 20; 10; 14, which counts the old blocks as free
    ∷ (map (refusal s₂) (set 0 ∷ set 511 ∷ set 4609 ∷ set 4608 ∷ set_attributes (in_root 66) (pattern 512) ∷ set 1536 ∷ set 1024 ∷ []), 9 ∷ 9 ∷ 9 ∷ 20 ∷ 10 ∷ 14 ∷ 0 ∷ [])
    ∷ []

pub looks : List (List ℕ × List ℕ)
looks =
    let s₀ = image in
    let s₁ = after s₀ (set 512) in
    let s₂ = after s₁ (set 1024) in
    -- whole blocks, as many as there are and the buffer holds; the rest of the buffer stays
    (numbers (look_answer s₁ (read_attributes_of file_a (replicate 600 7))), 0 ∷ 512 ∷ (pattern 512 ++ replicate 88 7))
    ∷ (numbers (look_answer s₂ (read_attributes_of file_a (replicate 600 7))), 0 ∷ 512 ∷ (pattern 512 ++ replicate 88 7))
    ∷ (numbers (look_answer s₂ (read_attributes_of file_a (replicate 3 7))) ++ numbers (look_answer s₀ (read_attributes_of file_a (replicate 3 7))), 0 ∷ 0 ∷ 7 ∷ 7 ∷ 7 ∷ 0 ∷ 0 ∷ 7 ∷ 7 ∷ 7 ∷ [])
    ∷ (numbers (look_answer s₁ (read_attributes_of (in_root 66) (7 ∷ []))), 10 ∷ 0 ∷ 7 ∷ [])
    -- the fields, 5: one of them 0, more than 8 blocks; the chain, 6: of another length, on the file's own block
    ∷ (
      check (splice s₁ 1187 (0 ∷ [])) ∷ check (splice s₁ 1191 (0 ∷ [])) ∷ check (splice s₁ 1191 (9 ∷ [])) ∷ check (splice s₁ 1191 (2 ∷ []))
          ∷ check (splice s₁ 1187 (4 ∷ [])) ∷ check (splice s₁ 1187 (7 ∷ [])) ∷ [],
      5 ∷ 5 ∷ 5 ∷ 6 ∷ 6 ∷ 6 ∷ [],
    )
    ∷ []

larger-holds : AsExpected larger_volume
unfolding larger_volume set samples rules
larger-holds = tt

changes-hold : AsExpected changes
unfolding changes set image samples rules
changes-hold = tt

looks-hold : AsExpected looks
unfolding looks set image samples rules
looks-hold = tt

pub attribute-cases : AsExpected larger_volume × AsExpected changes × AsExpected looks
attribute-cases = (larger-holds, changes-hold, looks-hold)
