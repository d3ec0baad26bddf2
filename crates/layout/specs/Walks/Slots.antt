-- The loops over a directory's slots, from slot k on.
use Rattle.std.specs.Prelude.{ℕ, Option, Some, None, ◌+◌, ◌*◌, ◌/◌, ◌%◌, ◌<◌, Bool, cond, ◌&&◌, List, ◌≡◌, eqb, leb, get_or}
use Rattle.layout.specs.declared.directory.Entry.{Entry}
use Rattle.layout.specs.Lists.{interval, every, same, lowest}
use Rattle.layout.specs.Directory.{slot_at, type_of, is_free, is_used, name_of}

-- b is the block of slot k, and j slots from k on stand before the end slot
pub record Place (ds : List ℕ) (d b k j : ℕ) : Type 0 where
  pub here : b ≡ get_or ds (k / 4) 0
  pub left : k + j + 1 ≡ 4 * d

-- where slot k begins, if b is its block
abbrev pub entry_at : ℕ → ℕ → ℕ
entry_at b k = 512 * b + 128 * (k % 4)

-- the block of slot k, if b is that of slot k − 1
unfoldable pub slot_block : (ℕ → ℕ) → ℕ → ℕ → ℕ
slot_block v b k = cond (eqb (k % 4) 0) (v b) b

-- the tests that a search makes of an entry: its type passes, and it has the name; a free slot
abbrev pub entry_named : (ℕ → Bool) → List ℕ → List ℕ → ℕ → Bool
entry_named type s name e = type (type_of s e) && same (name_of s e) name

abbrev pub slot_free : List ℕ → ℕ → Bool
slot_free s e = is_free (type_of s e)

-- the lowest of the slots k to k + j − 1 whose entry passes a test, or 0
unfoldable pub slot_from : (ℕ → Bool) → List ℕ → ℕ → ℕ → ℕ
slot_from test ds k j = lowest (λ x. test (slot_at ds x)) (interval k j)

-- the same among slots that are in block b
abbrev pub slot_in : (ℕ → Bool) → ℕ → ℕ → ℕ → ℕ
slot_in test b k j = lowest (λ x. test (entry_at b x)) (interval k j)

-- the lowest of the slots k to k + j − 1 that is `start` or more and not free, or 0
unfoldable pub used_from : ℕ → List ℕ → List ℕ → ℕ → ℕ → ℕ
used_from start s ds k j = lowest (λ x. leb start x && is_used (type_of s (slot_at ds x))) (interval k j)

-- the slots k to k + j − 1 are free
unfoldable pub all_free : List ℕ → List ℕ → ℕ → ℕ → Bool
all_free s ds k j = every (λ x. is_free (type_of s (slot_at ds x))) (interval k j)

-- k is the slot x that a search gives, 0 if there is none; b is its block, 0 if there is none
pub record Stands (ds : List ℕ) (n x k b : ℕ) : Type 0 where
  pub slot : k ≡ x
  pub low : k < 256
  pub block : (k ≡ 0 → ⊥) → (b < n) × (entry_at b k ≡ slot_at ds k)
  pub none : k ≡ 0 → b ≡ 0

-- a number that may be none, by the number that stands for it in the rules, where 0 is none: as far as that goes, and if no 0 is given
abbrev pub NoneIsZero : ℕ → Option ℕ → Type 0
NoneIsZero x (Some k) = k ≡ x
NoneIsZero x None = x ≡ 0

abbrev pub SomeUnlessZero : ℕ → Option ℕ → Type 0
SomeUnlessZero x (Some k) = (k ≡ x) × (k ≡ 0 → ⊥)
SomeUnlessZero x None = x ≡ 0

-- an entry that may be none, by the slot x that a search gives
abbrev pub StandsAt : List ℕ → ℕ → ℕ → Option Entry → Type 0
StandsAt ds n x (Some e) = Stands ds n x e.slot e.block × (e.slot ≡ 0 → ⊥)
StandsAt ds n x None = Stands ds n x 0 0
