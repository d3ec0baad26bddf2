-- The clauses of the definitions as equations, one for each way through the code.
use Prim.Native.Nat.{ℕ, suc, ◌*◌}
use mathlib.Core.Bool.{true, false, ◌&&◌, ◌||◌, cond}
use mathlib.Core.List.{List, [], ◌∷◌, ◌++◌}
use mathlib.Core.Path.{◌≡◌, refl}
use lib.Dec.{eqb, ltb}
use Rattle.layout.specs.Lists.{interval, has, last_or}
use Rattle.layout.specs.Bytes.{zeros, splice}
use Rattle.layout.specs.Geometry.{block_count}
use Rattle.layout.specs.Table.{next, set_next, occupied}
use Rattle.layout.specs.Directory.{slot_at, type_of, is_free, file_blocks, attribute_blocks}
use Rattle.layout.specs.Check.{slot_ok, new_name, stage7}
use Rattle.volume.specs.Entries.{set_occupied}
use Rattle.volume.specs.Attributes.{set_attribute_fields}
use Rattle.salvage.specs.Salvage.{Progress, claimable, ends, ended, take_file, zero_entry, skip, take_slot, take_slots, end_at, end_right, end_put, one_at, blanked, free_at, in_turn, counts_put}

-- the loops
module _ (ds : List ℕ) (p : Progress) (k : ℕ) where
  pub slots_end : take_slots ds p (interval k 0) ≡ p
  unfolding take_slots
  slots_end = refl

  pub slots_next : (left : ℕ) → take_slots ds p (interval k (suc left)) ≡ take_slots ds (take_slot ds p k) (interval (suc k) left)
  unfolding take_slots
  slots_next left = refl

module _ (f : List ℕ → ℕ → List ℕ) (s : List ℕ) (b : ℕ) where
  pub turn_end : in_turn f s (interval b 0) ≡ s
  unfolding in_turn
  turn_end = refl

  pub turn-next : (left : ℕ) → in_turn f s (interval b (suc left)) ≡ in_turn f (f s b) (interval (suc b) left)
  unfolding in_turn
  turn-next left = refl

-- one slot
module _ (ds : List ℕ) (p : Progress) (k : ℕ) where
  abbrev s : List ℕ
  s = p.image

  abbrev e : ℕ
  e = slot_at ds k

  pub slot-free : is_free (type_of s e) ≡ true → take_slot ds p k ≡ skip p
  unfolding take_slot
  slot-free a = rw a

  pub slot-broken : is_free (type_of s e) ≡ false → slot_ok s e && new_name s ds k ≡ false → take_slot ds p k ≡ zero_entry p e 1
  unfolding take_slot
  slot-broken a b = rw (a, b)

  pub slot-lost : is_free (type_of s e) ≡ false → slot_ok s e && new_name s ds k ≡ true → claimable (block_count s) p.claimed (file_blocks s e) ≡ false → take_slot ds p k ≡ zero_entry p e 2
  unfolding take_slot
  slot-lost a b c = rw (a, b, c)

  pub slot-file : is_free (type_of s e) ≡ false → slot_ok s e && new_name s ds k ≡ true → claimable (block_count s) p.claimed (file_blocks s e) ≡ true → take_slot ds p k ≡ take_file p e
  unfolding take_slot
  slot-file a b c = rw (a, b, c)

-- a file whose own chain is good
module _ (p : Progress) (e : ℕ) where
  abbrev image₁ : List ℕ
  image₁ = ended p.image (file_blocks p.image e)

  abbrev claimed₁ : List ℕ
  claimed₁ = p.claimed ++ file_blocks p.image e

  abbrev second : List ℕ
  second = attribute_blocks image₁ e

  pub file-both : claimable (block_count p.image) claimed₁ second ≡ true → take_file p e
      ≡ record { image = ended image₁ second; claimed = claimed₁ ++ second; codes = p.codes ++ (cond (ends p.image (file_blocks p.image e) && ends image₁ second) 0 3 ∷ []) }
  unfolding take_file
  file-both a = rw a

  pub file-first : claimable (block_count p.image) claimed₁ second ≡ false → take_file p e ≡ record { image = set_attribute_fields image₁ e 0 0; claimed = claimed₁; codes = p.codes ++ (4 ∷ []) }
  unfolding take_file
  file-first a = rw a

-- what is set, and what is left
module _ (s : List ℕ) where
  pub ended-left : (bs : List ℕ) → ends s bs ≡ true → ended s bs ≡ s
  unfolding ended
  ended-left bs a = rw a

  pub ended-set : (bs : List ℕ) → ends s bs ≡ false → ended s bs ≡ set_next s (last_or 0 bs) 1
  unfolding ended
  ended-set bs a = rw a

  pub end-left : (ds : List ℕ) → end_right s ds ≡ true → end_put s ds ≡ s
  unfolding end_put
  end-left ds a = rw a

  pub end-set : (ds : List ℕ) → end_right s ds ≡ false → end_put s ds ≡ splice s (end_at ds) (0xFF ∷ [])
  unfolding end_put
  end-set ds a = rw a

  pub one_left : (b : ℕ) → eqb (next s b) 1 ≡ true → one_at s b ≡ s
  unfolding one_at
  one_left b a = rw a

  pub one_set : (b : ℕ) → eqb (next s b) 1 ≡ false → one_at s b ≡ set_next s b 1
  unfolding one_at
  one_set b a = rw a

  module _ (claimed : List ℕ) (b : ℕ) where
    pub free-left : has eqb b claimed || eqb (next s b) 0 ≡ true → free_at claimed s b ≡ s
    unfolding free_at
    free-left a = rw a

    pub free-block : has eqb b claimed || eqb (next s b) 0 ≡ false → ltb b (block_count s) ≡ true → free_at claimed s b ≡ set_next (splice s (512 * b) (zeros 512)) b 0
    unfolding free_at blanked
    free-block a c = rw (a, c)

    pub free-padding : has eqb b claimed || eqb (next s b) 0 ≡ false → ltb b (block_count s) ≡ false → free_at claimed s b ≡ set_next s b 0
    unfolding free_at blanked
    free-padding a c = rw (a, c)

  pub counts-left : stage7 s ≡ true → counts_put s ≡ s
  unfolding counts_put
  counts-left a = rw a

  pub counts-new : stage7 s ≡ false → counts_put s ≡ set_occupied s (block_count s) (occupied (next s) (block_count s))
  unfolding counts_put
  counts-new a = rw a
