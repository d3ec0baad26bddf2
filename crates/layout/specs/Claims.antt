-- The words of the theorems about images: what a reader must believe to read them.
use Rattle.std.specs.Prelude.{ℕ, ◌<◌, ◌≡◌, Bool, true, false, ◌&&◌, List, [], ◌∷◌, ◌++◌, ◌≢◌, length, get_or, eqb}
use Rattle.layout.specs.Lists.{has, same}
use Rattle.layout.specs.Bytes.{part}
use Rattle.layout.specs.Geometry.{block_count}
use Rattle.layout.specs.Table.{next}
use Rattle.layout.specs.Directory.{attribute_size_of, is_file, file_blocks, content, attribute_blocks, attributes}
use Rattle.layout.specs.Paths.{parts, leading, shallow, path_slot, entry_of}

-- "Blocks needed are taken lowest number first": bs are free blocks of s, in ascending order, and no free block below one of them is left out
pub record LowestFree (s bs : List ℕ) : Type 0 where
  pub free : (b : ℕ) → has eqb b bs ≡ true → (b < block_count s) × (next s b ≡ 0)
  pub rising : (i j : ℕ) → i < j → j < length bs → get_or bs i 0 < get_or bs j 0
  pub lowest : (b c : ℕ) → has eqb c bs ≡ true → b < c → next s b ≡ 0 → has eqb b bs ≡ true

-- the path leads to a file, through at most as many directories as there may be levels
abbrev pub Reached : List ℕ → List ℕ → Type 0
Reached s other = (shallow (leading (parts other)) ≡ true) × (path_slot is_file s other ≢ 0)

-- L6: the attributes of the file whose entry is at e, in s and in s': the same size, blocks and bytes
pub record SameAttributes (s s' : List ℕ) (e : ℕ) : Type 0 where
  pub size : attribute_size_of s' e ≡ attribute_size_of s e
  pub blocks : attribute_blocks s' e ≡ attribute_blocks s e
  pub bytes : attributes s' e ≡ attributes s e

-- the file of a path in s and in s': found in the same slot, with the same bytes of its entry, blocks, content and attributes
pub record Untouched (s s' other : List ℕ) : Type 0 where
  pub slot : shallow (leading (parts other)) ≡ true → path_slot is_file s' other ≡ path_slot is_file s other
  pub entry : Reached s other → entry_of is_file s' other ≡ entry_of is_file s other
  pub bytes : Reached s other → part s' (entry_of is_file s other) 128 ≡ part s (entry_of is_file s other) 128
  pub blocks : Reached s other → file_blocks s' (entry_of is_file s other) ≡ file_blocks s (entry_of is_file s other)
  pub contents : Reached s other → content s' (entry_of is_file s other) ≡ content s (entry_of is_file s other)
  pub second : Reached s other → SameAttributes s s' (entry_of is_file s other)

-- `more` is `less` with one element put in somewhere
pub record Inserted {A : Type 0} (one : A) (less more : List A) : Type 0 where
  pub front : List A
  pub back : List A
  pub less-is : less ≡ front ++ back
  pub more-is : more ≡ front ++ (one ∷ back)

-- a path is inside another whose parts its own parts begin with
abbrev pub begins_with : List (List ℕ) → List (List ℕ) → Bool
begins_with ps [] = true
begins_with [] (q ∷ qs) = false
begins_with (p ∷ ps) (q ∷ qs) = same p q && begins_with ps qs

unfoldable pub is_inside : List ℕ → List ℕ → Bool
is_inside path outer = begins_with (parts path) (parts outer)
