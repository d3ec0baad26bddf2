-- The chain table held as numbers (FORMAT.md, 12: "a lent run of 32-bit numbers, one per block"). A question is asked of the values, a function from block
-- numbers: of an image `next s`, of numbers `value_in xs`. So the layout's definitions say what each question answers on either.
use Rattle.std.specs.Prelude.{ℕ, zero, suc, ◌<◌, List, [], ◌∷◌, map, ◌≡◌, length, get_or, set}
use Rattle.layout.specs.Lists.{interval, joined}
use Rattle.layout.specs.Bytes.{bytes4, splice}
use Rattle.layout.specs.Geometry.{block_count}
use Rattle.layout.specs.Table.{next}

-- the value of entry b; past the last number it is 0
abbrev pub value_in : List ℕ → ℕ → ℕ
value_in xs b = get_or xs b 0

-- the values of the entries 0 to n − 1, as numbers
unfoldable pub entries_of : (ℕ → ℕ) → ℕ → List ℕ
entries_of v n = map v (interval 0 n)

-- the image with the numbers as its first entries: "Store writes the entries below n only"
unfoldable pub stored : List ℕ → List ℕ → List ℕ
stored s xs = splice s 512 (joined bytes4 xs)

-- the numbers are the first n entries of the image
pub record Held (s xs : List ℕ) (n : ℕ) : Type 0 where
  pub size : length xs ≡ n
  pub same : (b : ℕ) → b < n → value_in xs b ≡ next s b

-- the image's own numbers; it is bytes, as every image lent to a call is
pub record Own (s xs : List ℕ) : Type 0 where
  pub bytes : (i : ℕ) → get_or s i 0 < 256
  pub held : Held s xs (block_count s)

-- the volume's changes of the table, on the numbers: block b linked after the block `last` (0: there is none), taken, freed
unfoldable pub linked_in : List ℕ → ℕ → ℕ → List ℕ
linked_in xs zero b = xs
linked_in xs (suc last) b = set xs (suc last) b

unfoldable pub taken_in : List ℕ → ℕ → ℕ → List ℕ
taken_in xs last b = linked_in (set xs b 1) last b

unfoldable pub freed_in : List ℕ → ℕ → List ℕ
freed_in xs b = set xs b 0

-- each block of a list in turn: taken, linked at the chain's end, and freed
unfoldable pub grown_in : List ℕ → ℕ → List ℕ → List ℕ
grown_in xs last [] = xs
grown_in xs last (b ∷ bs) = grown_in (taken_in xs last b) b bs

unfoldable pub released_in : List ℕ → List ℕ → List ℕ
released_in xs [] = xs
released_in xs (b ∷ bs) = released_in (freed_in xs b) bs
