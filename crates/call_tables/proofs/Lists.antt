-- Lists of writes (FORMAT.md, 15): the rows of B.2 with n = 8 for 16, worked out by hand, and computed from the definitions.
use Prim.Native.Nat.{ℕ, ◌+◌}
use mathlib.Core.List.{List, [], ◌∷◌, ◌++◌}
use lib.ListN.{length, replicate, take}
use Rattle.layout.specs.Bytes.{bytes4, bytes8}
use Rattle.store.specs.Change.{write}
use Rattle.journal.specs.Journal.{used, started}
use Rattle.journal.specs.Run.{change, undo, State, step, answer}
use Rattle.write_list.specs.List.{path_length, path_at, data_at, item_ok, items, list_ok, writes, Listed, one_by_one, list_refusal, write_list}
use Rattle.samples.proofs.Rules.{rules}
use Rattle.samples.proofs.Samples.{AsExpected, formatted_as, pattern, in_root, file_a, create_file, write_a, numbers, samples}

-- opens the definitions of a list, as rules does those below it
unfoldable list_rules : Unit {0}
unfolding path_length path_at data_at item_ok items list_ok writes one_by_one list_refusal write_list
list_rules = tt

-- a write at 0 to the file of a path of two bytes, as an item; items as a list
item : ℕ → List ℕ → ℕ → List ℕ
item time path count = bytes4 (20 + count) ++ (bytes8 time ++ (bytes4 0 ++ (0 ∷ 2 ∷ (path ++ pattern count))))

as_list : List ℕ → List ℕ
as_list xs = 1 ∷ (bytes4 (5 + length xs) ++ xs)

-- 513 bytes to A and one byte to B: 5 + 533 + 21 = 559 bytes
two : List ℕ
two = item 3000 file_a 513 ++ item 9 (in_root 66) 1

-- n = 8, d = 2, with empty files A and B: used length 1,045
p : State
p = step (step (record { image = formatted_as 8 2; journal = started 5700 }) (change (create_file 65))) (change (create_file 66))

told : Listed → List ℕ
told w = w.number ∷ w.done ∷ used w.state.journal ∷ []

-- both are done, as by two calls, with records 2,584 (blocks 0, 1, 2, 4, 5) and 2,068 (blocks 0, 1, 2, 6); two undos take them back
pub accepted : List (List ℕ × List ℕ)
accepted =
    let start = p in
    let w = write_list start (as_list two) in
    let q = step (step start (change (write_a 0 513))) (change (write (in_root 66) 0 (0 ∷ []) 9)) in
    let back = step w.state undo in
    let first = step back undo in
    (length (as_list two) ∷ told w, 559 ∷ 0 ∷ 2 ∷ 5697 ∷ [])
    ∷ (w.state.image ++ w.state.journal, q.image ++ q.journal)
    ∷ (numbers (answer w.state undo) ++ numbers (answer back undo), 0 ∷ 2068 ∷ 0 ∷ 2584 ∷ [])
    ∷ (first.image ++ first.journal, start.image ++ start.journal)
    ∷ []

-- a third write, to a file C that is not there: 10, with two done; the last byte missing; no items; a path longer than its item; version 2; 1 and 8 before 19
pub stopped : List (List ℕ × List ℕ)
stopped =
    let start = p in
    (told (write_list start (as_list (two ++ item 9 (in_root 67) 1))), 10 ∷ 2 ∷ 5697 ∷ [])
    ∷ (told (write_list start (take 558 (as_list two))) ++ told (write_list start (as_list [])), 19 ∷ 0 ∷ 1045 ∷ 0 ∷ 0 ∷ 1045 ∷ [])
    ∷ (told (write_list start (as_list (bytes4 20 ++ (replicate 12 0 ++ (0 ∷ 3 ∷ file_a))))) ++ told (write_list start (2 ∷ bytes4 5)), 19 ∷ 0 ∷ 1045 ∷ 19 ∷ 0 ∷ 1045 ∷ [])
    ∷ (list_refusal (record { image = []; journal = [] }) [] ∷ list_refusal (record { image = start.image; journal = [] }) [] ∷ [], 1 ∷ 8 ∷ [])
    ∷ []

accepted-hold : AsExpected accepted
unfolding accepted told p two item as_list list_rules samples rules
accepted-hold = tt

stopped-hold : AsExpected stopped
unfolding stopped told p two item as_list list_rules samples rules
stopped-hold = tt

pub list_cases : AsExpected accepted × AsExpected stopped
list_cases = (accepted-hold, stopped-hold)
