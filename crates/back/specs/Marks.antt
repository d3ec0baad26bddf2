-- Marks, and what a journal can be asked. A mark is a used length that a journal has had: a program notes it, and can go back to it.
use Rattle.std.specs.Prelude.{ℕ, List, [], ◌∷◌, ◌++◌, map, length, leb}
use Rattle.layout.specs.Lists.{select, last_or}
use Rattle.layout.specs.Refusals.{require, first_of, accept}
use Rattle.layout.specs.Bytes.{be32}
use Rattle.layout.specs.Geometry.{block_count}
use Rattle.layout.specs.Check.{check}
use Rattle.journal.specs.Journal.{used, records, well_formed}
use Rattle.journal.specs.Run.{State}

-- the used lengths that a journal had after 0, 1, .. of its records: where each of them begins, and where the last one ends; the first is 5
unfoldable pub marks : List ℕ → List ℕ
marks j = records j ++ (used j ∷ [])

-- how many records begin at a mark or behind it: those that were added since
unfoldable pub behind : List ℕ → ℕ → ℕ
behind j mark = length (select (leb mark) (records j))

-- the length of the last record, 0 if there is none
unfoldable pub last_length : List ℕ → ℕ
last_length j = last_or 0 (map (be32 j) (records j))

-- Journal info, a look: the number, the used length (a mark), how many records stand, and the length of the last one.
pub record InfoAnswer : Type 0 where
  pub number : ℕ
  pub used : ℕ
  pub records : ℕ
  pub last : ℕ

abbrev pub info : ℕ → ℕ → ℕ → ℕ → InfoAnswer
info number u k last = record { number = number; used = u; records = k; last = last }

-- 1 to 8
unfoldable pub info_refusal : State → ℕ
info_refusal p = first_of (check p.image) (require (well_formed p.journal (block_count p.image)) 8 0)

unfoldable pub journal_info : State → InfoAnswer
journal_info p =
    let given : InfoAnswer = info 0 (used p.journal) (length (records p.journal)) (last_length p.journal) in
    accept (info_refusal p) given (info (info_refusal p) 0 0 0)
