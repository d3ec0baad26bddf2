-- What the private contracts of the code speak of.
use Rattle.std.specs.Prelude.{ℕ, ◌+◌, ◌-◌, ◌*◌, ◌/◌, ◌%◌, ◌≤◌, ◌<◌, List, Bool, not, ◌&&◌, cond, ◌⊎◌, ◌≡◌, length, get_or, eqb}
use Rattle.layout.specs.Lists.{interval, every}
use Rattle.layout.specs.Limits.{min_blocks, max_blocks, max_directory}
use Rattle.layout.specs.Table.{next, chain}
use Rattle.layout.specs.Directory.{slot_at, type_of, first_block, blocks_of, attribute_block_of, attribute_size_of, is_free, is_file, directory}
use Rattle.plain_check.specs.Plain.{Question, held_before, answer}

-- a number of four bytes is below 2³²; no offset that the check reads at is above 2⁴⁴
abbrev pub word : ℕ
word = 0x100000000

abbrev pub far : ℕ
far = 0x100000000000

-- the entry after that at e: in the same block, or the first of the next one
unfoldable pub after : (ℕ → ℕ) → ℕ → ℕ
after v e = cond (eqb (e % 512) 384) (512 * v (e / 512)) (e + 128)

-- the 80 bytes of name of the entries at a and b are the same
unfoldable pub same_field : List ℕ → ℕ → ℕ → Bool
same_field s a b = every (λ i. eqb (get_or s (a + i) 0) (get_or s (b + i) 0)) (interval 48 80)

-- the entries at o and e are both used and have the same field; none of the slots before slot k does with e
abbrev pub clash : List ℕ → ℕ → ℕ → Bool
clash s e o = (not (is_free (type_of s o)) && not (is_free (type_of s e))) && same_field s o e

unfoldable pub new_field : List ℕ → List ℕ → ℕ → ℕ → Bool
new_field s ds e k = every (λ j. not (clash s e (slot_at ds j))) (interval 1 (k - 1))

-- of the k blocks from b on, none is in a directory met before
unfoldable pub new_from : List ℕ → ℕ → ℕ → ℕ → Bool
new_from s c b k = every (λ x. eqb (held_before s c x) 0) (chain (next s) b k)

-- an image of n blocks, n in range
pub record Volume (s : List ℕ) (n : ℕ) : Type 0 where
  pub whole : length s ≡ 512 * n
  pub low : min_blocks ≤ n
  pub high : n ≤ max_blocks

-- the directory at block d has 1 to 64 blocks, all below n
pub record Stands (s : List ℕ) (n d : ℕ) : Type 0 where
  pub some : 1 ≤ blocks_of s (512 * d)
  pub few : blocks_of s (512 * d) ≤ max_directory
  pub below : (i : ℕ) → i < blocks_of s (512 * d) → get_or (directory s d) i 0 < n

-- r is x, or both are above the most that is asked for
abbrev pub Upto : ℕ → ℕ → ℕ → Type 0
Upto cap r x = (r ≡ x) ⊎ ((cap < r) × (cap < x))

-- what the two chains of a file answer together; of any other entry 0
unfoldable pub file_answer : Question → List ℕ → ℕ → ℕ → ℕ
file_answer q s n e = cond (is_file (type_of s e)) (answer q s n (first_block s e) (blocks_of s e) + answer q s n (attribute_block_of s e) (attribute_size_of s e)) 0

-- what may be asked of any chain whose numbers have four bytes; no answer is above 2·2³²
pub record Askable (pre : ℕ → ℕ → Type 0) (post : ℕ → ℕ → ℕ → Type 0) : Type 0 where
  pub always : (first k : ℕ) → first < word → k < word → pre first k
  pub few : (first k r : ℕ) → first < word → k < word → post first k r → r ≤ 2 * word

-- it answers as a question does
abbrev pub Answers : (post : ℕ → ℕ → ℕ → Type 0) → Question → List ℕ → ℕ → Type 0
Answers post q s n = (first k r : ℕ) → first < word → k < word → post first k r → r ≡ answer q s n first k
