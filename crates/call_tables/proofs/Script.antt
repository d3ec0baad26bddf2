-- The example of docs/SCRIPT.md, as antt computes it: the script's answers, and a script that is refused.
use Prim.Native.Nat.{ℕ}
use mathlib.Core.List.{List, [], ◌∷◌, ◌++◌}
use lib.Dec.{T}
use lib.ListN.{replicate, take}
use Rattle.layout.specs.Lists.{every, same}
use Rattle.journal.specs.Journal.{started}
use Rattle.journal.specs.Run.{State}
use Rattle.layout.specs.Bytes.{be64}
use Rattle.journal.specs.Kinds.{step_of, answer_of, run_of, answers_of}
use Rattle.script.specs.Script.{name_at, data_at, change_at, call_at, item_call, item_ok, items_from, calls_from, encoded, encoded_item, answer_size, item_room, answers_size, Status, done, malformed, no_room, given, outcome}
use Rattle.samples.proofs.Rules.{rules}
use Rattle.samples.proofs.Samples.{formatted_as, samples}

-- a header: op and the four bytes after it; low bytes of offset and time, and of the two lengths; the other bytes are 0
header : List ℕ → ℕ → ℕ → ℕ → ℕ → List ℕ
header first offset time name bytes =
    first ++ (replicate 4 0 ++ (replicate 7 0 ++ (offset ∷ (replicate 7 0 ++ (time ∷ (replicate 3 0 ++ (name ∷ (replicate 3 0 ++ (bytes ∷ [])))))))))

pub script : List ℕ
script =
    (header (5 ∷ 0x60 ∷ 1 ∷ 2 ∷ 7 ∷ []) 0 100 2 0 ++ (47 ∷ 65 ∷ []))
    ++ ((header (6 ∷ 0 ∷ 0 ∷ 0 ∷ 0 ∷ []) 0 101 2 3 ++ (47 ∷ 65 ∷ 97 ∷ 98 ∷ 99 ∷ []))
    ++ ((header (3 ∷ 0 ∷ 0 ∷ 0 ∷ 0 ∷ []) 1 0 2 4 ++ (47 ∷ 65 ∷ 255 ∷ 255 ∷ 255 ∷ 255 ∷ []))
    ++ header (8 ∷ 0 ∷ 0 ∷ 0 ∷ 0 ∷ []) 0 0 0 0))

pub expected : List ℕ
expected =
    replicate 7 0 ++ (1 ∷ 0 ∷ 0 ∷ 2 ∷ 8 ∷ replicate 4 0)
    ++ (replicate 10 0 ++ (8 ∷ 0x14 ∷ replicate 4 0)
    ++ (replicate 7 0 ++ (2 ∷ replicate 8 0) ++ (0x62 ∷ 0x63 ∷ 255 ∷ 255 ∷ [])
    ++ (replicate 10 0 ++ (8 ∷ 0x14 ∷ replicate 4 0))))

start : State
start = record { image = formatted_as 16 2; journal = started 2593 }

-- a status as a number, to compare
code : Status → ℕ
code done = 0
code malformed = 1
code no_room = 2

pub table : List (List ℕ × List ℕ)
table =
    let o = outcome start script (replicate 70 9) in
    (code o.status ∷ [], 0 ∷ [])
    ∷ (o.out, expected ++ (9 ∷ 9 ∷ []))
    -- the last item cut off; no room for the last byte
    ∷ (code (outcome start (take 144 script) (replicate 70 9)).status ∷ code (outcome start script (replicate 67 9)).status ∷ [], 1 ∷ 2 ∷ [])
    ∷ []

pub example-holds : T (every (λ row. same row.0 row.1) table)
unfolding table header script expected start samples be64 name_at data_at change_at call_at item_call item_ok items_from calls_from encoded encoded_item answer_size item_room answers_size step_of answer_of run_of answers_of code given outcome rules Rattle.script.specs.Script.numbers
example-holds = tt
