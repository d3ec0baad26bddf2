-- Document 01's worked numbers, the lines marked P of "Numbers to hold it against": one table, proved by computing the definitions.
use mathlib.Core.List.{List, [], ◌∷◌, ◌++◌, map}
use Prim.Native.Nat.{ℕ}
use lib.Dec.{T}
use lib.ListN.{length}
use Rattle.layout.specs.Lists.{interval, every, same}
use Rattle.layout.specs.Bytes.{be32}
use Rattle.layout.specs.Geometry.{table_blocks}
use Rattle.layout.specs.Table.{next}
use Rattle.layout.specs.Directory.{slots, root}
use Rattle.layout.specs.Check.{check}
use Rattle.layout.specs.Listing.{listing}
use Rattle.volume.specs.Format.{format_refusal}
use Rattle.store.specs.Change.{named}
use Rattle.journal.specs.Journal.{used, started, ascending}
use Rattle.journal.specs.Run.{change, undo, State, step, answer}
use Rattle.samples.proofs.Rules.{rules}
use Rattle.samples.proofs.Samples.{blank, label, formatted_as, create_file, write_a, numbers, samples}

-- each row: what the definitions give, and what document 01 says
pub worked_numbers : List (List ℕ × List ℕ)
worked_numbers =
    let s₃ = formatted_as 3 1 in
    let p₀ : State = record { image = formatted_as 16 2; journal = started 5000 } in
    let s₀ = p₀.image in
    let p₁ = step p₀ (change (create_file 65)) in
    let p₂ = step p₁ (change (write_a 0 513)) in
    let p₃ = step p₂ (change (write_a 513 1)) in
    let p₄ = step p₃ undo in
    -- "n=3, d=1: format accepted, used 3, free 0. n=3, d=2: 14. 1,024 bytes: 1."
    (format_refusal (blank 3) 1 label ∷ be32 s₃ 20 ∷ be32 s₃ 24 ∷ check s₃ ∷ [], 0 ∷ 3 ∷ 0 ∷ 0 ∷ [])
    ∷ (format_refusal (blank 3) 2 label ∷ [], 14 ∷ [])
    ∷ (format_refusal (blank 2) 1 label ∷ [], 1 ∷ [])
    -- "t: n=128 gives 1, 129 gives 2, 4,096 gives 32."
    ∷ (map table_blocks (128 ∷ 129 ∷ 4096 ∷ []), 1 ∷ 2 ∷ 32 ∷ [])
    -- "n=16, d=2: entries 0 to 3 are 1, 1, 3, 1; free 12; six file slots."
    ∷ (map (next s₀) (interval 0 4), 1 ∷ 1 ∷ 3 ∷ 1 ∷ [])
    ∷ (be32 s₀ 24 ∷ length (slots (root s₀)) ∷ check s₀ ∷ [], 12 ∷ 6 ∷ 0 ∷ [])
    -- "then create "A" (record 520) and write 513 bytes at 0: entries 4, 5 are 5, 1; used 6; record 2,584 (blocks 0, 1, 2, 4, 5); journal 3,109."
    ∷ (numbers (answer p₀ (change (create_file 65))), 0 ∷ 1 ∷ 520 ∷ [])
    ∷ (numbers (answer p₁ (change (write_a 0 513))), 0 ∷ 0 ∷ 2584 ∷ [])
    ∷ (map (next p₂.image) (4 ∷ 5 ∷ []) ++ (be32 p₂.image 20 ∷ []), 5 ∷ 1 ∷ 6 ∷ [])
    ∷ (ascending 16 (named p₁.image (write_a 0 513)), 0 ∷ 1 ∷ 2 ∷ 4 ∷ 5 ∷ [])
    ∷ (used p₂.journal ∷ check p₂.image ∷ [], 3109 ∷ 0 ∷ [])
    -- the listing after this write: "blocks 16 used 6 free 10" and "1 513 2 A"
    ∷ (
      listing p₂.image,
      98 ∷ 108 ∷ 111 ∷ 99 ∷ 107 ∷ 115 ∷ 32 ∷ 49 ∷ 54 ∷ 32 ∷ 117 ∷ 115 ∷ 101 ∷ 100 ∷ 32 ∷ 54 ∷ 32 ∷ 102 ∷ 114 ∷ 101 ∷ 101 ∷ 32 ∷ 49 ∷ 48 ∷ 10
          ∷ 49 ∷ 32 ∷ 53 ∷ 49 ∷ 51 ∷ 32 ∷ 50 ∷ 32 ∷ 65 ∷ 10 ∷ [],
    )
    -- "then 1 byte at 513: record 1,036; journal 4,145. undo: 3,109."
    ∷ (numbers (answer p₂ (change (write_a 513 1))) ++ (used p₃.journal ∷ []), 0 ∷ 0 ∷ 1036 ∷ 4145 ∷ [])
    ∷ (numbers (answer p₃ undo) ++ (used p₄.journal ∷ []), 0 ∷ 1036 ∷ 3109 ∷ [])
    -- "write at 514 then: 12. create "A": 11."
    ∷ (numbers (answer p₄ (change (write_a 514 1))), 12 ∷ 0 ∷ 0 ∷ [])
    ∷ (numbers (answer p₄ (change (create_file 65))), 11 ∷ 0 ∷ 0 ∷ [])
    ∷ []

pub worked-numbers : T (every (λ row. same row.0 row.1) worked_numbers)
unfolding worked_numbers samples rules
worked-numbers = tt
