-- What the theorems of salvage say of an image s that it was given and the image w that it left.
use Rattle.std.specs.Prelude.{ℕ, ◌+◌, ◌-◌, ◌*◌, ◌/◌, ◌≤◌, ◌<◌, Bool, true, ◌&&◌, cond, List, [], ◌∷◌, ◌++◌, ◌⊎◌, ◌≢◌, ◌≡◌, eqb, length}
use Rattle.layout.specs.Lists.{interval, has}
use Rattle.layout.specs.Bytes.{part}
use Rattle.layout.specs.Geometry.{block_count, table_blocks, root_block}
use Rattle.layout.specs.Table.{next}
use Rattle.layout.specs.Directory.{slot_at, type_of, attribute_block_of, attribute_size_of, is_free, is_file, root, file_blocks, content, attribute_blocks}
use Rattle.layout.specs.Check.{slot_ok, new_name}
use Rattle.salvage.specs.Salvage.{Progress, claimable, ends, ended, take_slots}

-- A block is freed: its entry was not 0, and is 0.
pub record Gone (s w : List ℕ) (b : ℕ) : Type 0 where
  pub above : table_blocks (block_count s) < b
  pub below : b < block_count s
  pub was : next s b ≢ 0
  pub is : next w b ≡ 0

-- A byte lies outside of the header's counts, the table, the root's slots from 1 on, and the freed blocks.
pub record Outside (s w : List ℕ) (i : ℕ) : Type 0 where
  pub counts : (i < 20) ⊎ (28 ≤ i)
  pub table : (i < 512) ⊎ (512 * root_block (block_count s) ≤ i)
  pub slots : (k : ℕ) → 1 ≤ k → k < 4 * length (root s) → (i < slot_at (root s) k) ⊎ (slot_at (root s) k + 128 ≤ i)
  pub freed : Gone s w (i / 512) → ⊥

-- b is a block of the file in slot k of the directory ds, of its own chain or of its attributes'
pub record Holds (w ds : List ℕ) (k b : ℕ) : Type 0 where
  pub least : 1 ≤ k
  pub most : k ≤ 4 * length ds - 2
  pub file : is_file (type_of w (slot_at ds k)) ≡ true
  pub block : (has eqb b (file_blocks w (slot_at ds k)) ≡ true) ⊎ (has eqb b (attribute_blocks w (slot_at ds k)) ≡ true)

-- THE CASE OF A SLOT. The tests that slot k of the root ds is put to when p has come of the volume: it is free; it meets stage 5, its name not that of a slot
-- kept earlier; its own chain can be claimed; the chain of its attributes too; the last value of both chains is 1.
module _ (ds : List ℕ) (p : Progress) (k : ℕ) where
  abbrev pub is_vacant : Bool
  is_vacant = is_free (type_of p.image (slot_at ds k))

  abbrev pub meets_stage5 : Bool
  meets_stage5 = slot_ok p.image (slot_at ds k) && new_name p.image ds k

  abbrev pub own_chain : List ℕ
  own_chain = file_blocks p.image (slot_at ds k)

  abbrev pub own_good : Bool
  own_good = claimable (block_count p.image) p.claimed own_chain

  abbrev pub second_chain : List ℕ
  second_chain = attribute_blocks (ended p.image own_chain) (slot_at ds k)

  abbrev pub second_good : Bool
  second_good = claimable (block_count p.image) (p.claimed ++ own_chain) second_chain

  abbrev pub ends_right : Bool
  ends_right = ends p.image own_chain && ends (ended p.image own_chain) second_chain

  -- its code by these
  abbrev pub case_in : ℕ
  case_in = cond is_vacant 0 (cond meets_stage5 (cond own_good (cond second_good (cond ends_right 0 3) 4) 2) 1)

-- what has come of the volume when the slots before k are done
unfoldable pub before : List ℕ → ℕ → Progress
before s k = take_slots (root s) (record { image = s; claimed = root s; codes = 0 ∷ [] }) (interval 1 (k - 1))

-- CODE 4, of the entry at e: all its bytes stay but its two attribute fields, which are 0, and its content stays
pub record OnlyCleared (s w : List ℕ) (e : ℕ) : Type 0 where
  pub front : part w e 32 ≡ part s e 32
  pub back : part w (e + 40) 88 ≡ part s (e + 40) 88
  pub first : attribute_block_of w e ≡ 0
  pub size : attribute_size_of w e ≡ 0
  pub contents : content w e ≡ content s e
