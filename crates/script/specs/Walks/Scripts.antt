-- What the functions of the runner hand on to each other.
use Rattle.std.specs.Prelude.{ℕ, ◌+◌, ◌≡◌, List, Bool, ◌||◌, cond, length, eqb, leb}
use Rattle.layout.specs.Bytes.{be64}
use Rattle.layout.specs.Looks.{ReadAnswer, read, read_attributes}
use Rattle.journal.specs.Run.{Call, State, step, answer, state}
use Rattle.journal.specs.Kinds.{KindCall, step_of, answer_of}
use Rattle.script.specs.Script.{item_kinds, Fits, op_at, name_at, data_at, call_at, item_call, answer_size, item_room, encoded, encoded_item}

-- the ops of the calls that only look, and of those among them that fill a buffer
abbrev pub looks : ℕ → Bool
looks op = eqb op 13 || leb op 4

abbrev pub fills : ℕ → Bool
fills op = eqb op 13 || eqb op 3

-- what such an item reads into its buffer: the file's attributes, or the file
unfoldable pub filled_at : (image script : List ℕ) (at : ℕ) → ReadAnswer
filled_at s script at =
    cond (eqb (op_at script at) 13) (read_attributes s (name_at script at) (data_at script at)) (read s (name_at script at) (be64 script (at + 9)) (data_at script at))

-- the length of the numbers in the answer of a look from op 16 on
abbrev pub head_size : ℕ → ℕ
head_size op = cond (eqb op 16) 32 (cond (eqb op 17) 64 16)

-- a whole item, and the part of the answers that is its own
pub record Item (s : List ℕ) (at : ℕ) (part : List ℕ) : Type 0 where
  pub fits : Fits s at
  pub room : length part ≡ answer_size (call_at s at)

-- the same of an item that may be a list
pub record Whole (s : List ℕ) (at : ℕ) (part : List ℕ) : Type 0 where
  pub fits : Fits s at
  pub room : length part ≡ item_room (item_call s at)

-- a call that was made: image, journal and its answer after it
pub record CallDone (p : State) (c : Call) (image journal part : List ℕ) : Type 0 where
  pub after : state image journal ≡ step p c
  pub answered : part ≡ encoded (answer p c)

pub record ItemDone (p : State) (c : KindCall item_kinds) (image journal part : List ℕ) : Type 0 where
  pub after : state image journal ≡ step_of p c
  pub answered : part ≡ encoded_item (answer_of p c)
