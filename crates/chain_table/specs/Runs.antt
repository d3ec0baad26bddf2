-- Runs in which the table is loaded and stored too (FORMAT.md, 12): "storing numbers that differ from the image's entries ends demand 3's run ..; any other
-- store counts there as a call that only looks". So a load is no call of the replay, and neither is a store.
use Rattle.std.specs.Prelude.{ℕ, List, [], ◌⊎◌, ◌≡◌, length}
use Rattle.journal.specs.Run.{State, state}
use Rattle.journal.specs.Kinds.{Kind, KindRunTheorem}
use Rattle.journal.specs.Back.{Tell}
use Rattle.chain_table.specs.Numbers.{Own}
use Rattle.chain_table.specs.Transfer.{Loaded, table_refusal, load_table, store_table}

-- a load or a store, with its numbers; and the answers
pub data TableCall : Type 0 where
  load : (numbers : List ℕ) → TableCall
  store : (numbers : List ℕ) → TableCall

pub data TableAnswer : Type 0 where
  loaded : Loaded → TableAnswer
  stored : (number : ℕ) → TableAnswer

-- by the rules
unfoldable pub table_step : State → TableCall → State
table_step p (load xs) = p
table_step p (store xs) = state (store_table p.image xs).image p.journal

unfoldable pub table_answer : State → TableCall → TableAnswer
table_answer p (load xs) = loaded (load_table p.image xs)
table_answer p (store xs) = stored (store_table p.image xs).number

-- a store that does not end the run: of the image's own numbers, or refused
unfoldable pub OnlyLooks : State → TableCall → Type 0
OnlyLooks p (load xs) = Unit {0}
OnlyLooks p (store xs) = Own p.image xs ⊎ (table_refusal p.image (length xs) ≡ 0 → ⊥)

-- the loads and stores
abbrev pub transfers : Kind
transfers = record {
  Further = TableCall;
  Reply = TableAnswer;
  after = table_step;
  reply = table_answer;
  calls = λ p c. [];
  Fits = OnlyLooks;
}

abbrev pub TableRunTheorem : Type 0
TableRunTheorem = KindRunTheorem transfers

-- how a program counts the changes that stand: neither changes the count
abbrev pub transfer_tell : Tell transfers
transfer_tell k r = k
