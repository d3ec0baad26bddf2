-- Journal info and undo to a mark (FORMAT.md, 10.5), worked out by hand, and computed from the definitions.
use Prim.Native.Nat.{ℕ}
use mathlib.Core.List.{List, [], ◌∷◌, ◌++◌}
use Rattle.journal.specs.Journal.{used, started}
use Rattle.journal.specs.Run.{change, State, step}
use Rattle.back.specs.Marks.{marks, behind, last_length, InfoAnswer, info_refusal, journal_info}
use Rattle.back.specs.UndoTo.{without_last, back_by, Backed, back_refusal, undo_to}
use Rattle.samples.proofs.Rules.{rules}
use Rattle.samples.proofs.Samples.{AsExpected, formatted_as, create_file, write_a, samples}

-- opens the definitions of marks, as rules does those below them
unfoldable mark_rules : Unit {0}
unfolding marks behind last_length info_refusal journal_info without_last back_by back_refusal undo_to
mark_rules = tt

-- n = 8, d = 2: at the start, with a file A, with B too, and with 513 bytes in A: records 520, 520 and 2,584 (blocks 0, 1, 2, 4, 5)
-- (a table computes each of them once, in a `let`)
p₀ : State
p₀ = record { image = formatted_as 8 2; journal = started 3700 }

asked : InfoAnswer → List ℕ
asked a = a.number ∷ a.used ∷ a.records ∷ a.last ∷ []

told : Backed → List ℕ
told b = b.number ∷ b.done ∷ used b.state.journal ∷ []

whole : State → List ℕ
whole p = p.image ++ p.journal

-- an info at each moment; undo to each of its marks gives the moment, byte for byte
pub moments : List (List ℕ × List ℕ)
moments =
    let start = p₀ in
    let p₁ = step start (change (create_file 65)) in
    let p₂ = step p₁ (change (create_file 66)) in
    let p₃ = step p₂ (change (write_a 0 513)) in
    let to₀ = undo_to p₃ 5 in
    let to₁ = undo_to p₃ 525 in
    let to₂ = undo_to p₃ 1045 in
    (asked (journal_info start) ++ asked (journal_info p₁), 0 ∷ 5 ∷ 0 ∷ 0 ∷ 0 ∷ 525 ∷ 1 ∷ 520 ∷ [])
    ∷ (asked (journal_info p₂) ++ asked (journal_info p₃), 0 ∷ 1045 ∷ 2 ∷ 520 ∷ 0 ∷ 3629 ∷ 3 ∷ 2584 ∷ [])
    ∷ (told to₀ ++ whole to₀.state, (0 ∷ 3 ∷ 5 ∷ []) ++ whole start)
    ∷ (told to₁ ++ whole to₁.state, (0 ∷ 2 ∷ 525 ∷ []) ++ whole p₁)
    ∷ (told to₂ ++ whole to₂.state, (0 ∷ 1 ∷ 1045 ∷ []) ++ whole p₂)
    ∷ (told (undo_to p₃ 3629) ++ told (undo_to start 5), 0 ∷ 0 ∷ 3629 ∷ 0 ∷ 0 ∷ 5 ∷ [])
    ∷ []

-- no marks: 27, and nothing changes; 1 and 8 come before
pub refused : List (List ℕ × List ℕ)
refused =
    let start = p₀ in
    let p₁ = step start (change (create_file 65)) in
    let p₂ = step p₁ (change (create_file 66)) in
    let p₃ = step p₂ (change (write_a 0 513)) in
    (told (undo_to p₃ 0) ++ told (undo_to p₃ 6), 27 ∷ 0 ∷ 3629 ∷ 27 ∷ 0 ∷ 3629 ∷ [])
    ∷ (told (undo_to p₃ 1044) ++ told (undo_to p₃ 4149), 27 ∷ 0 ∷ 3629 ∷ 27 ∷ 0 ∷ 3629 ∷ [])
    ∷ (back_refusal (record { image = []; journal = [] }) 6 ∷ back_refusal (record { image = start.image; journal = [] }) 6 ∷ [], 1 ∷ 8 ∷ [])
    ∷ (asked (journal_info (record { image = []; journal = [] })) ++ asked (journal_info (record { image = start.image; journal = [] })), 1 ∷ 0 ∷ 0 ∷ 0 ∷ 8 ∷ 0 ∷ 0 ∷ 0 ∷ [])
    ∷ []

moments-hold : AsExpected moments
unfolding moments asked told whole p₀ mark_rules samples rules
moments-hold = tt

refused-hold : AsExpected refused
unfolding refused asked told p₀ mark_rules samples rules
refused-hold = tt

pub mark-cases : AsExpected moments × AsExpected refused
mark-cases = (moments-hold, refused-hold)
