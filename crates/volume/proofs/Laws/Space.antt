-- Space: the blocks that a write takes, and the refusal for want of room.
use Prim.Native.Nat.{ℕ, zero, suc, ◌≤◌, ◌<◌, ◌+◌}
use mathlib.Core.List.{◌++◌, List}
use mathlib.Core.Logic.{⊎_elim, ◌≢◌}
use mathlib.Core.Path.{ap, ◌≡◌, refl, ◌∙◌}
use mathlib.Core.Bool.{Bool, true, false, not, ◌&&◌}
use native.Mathlib.Omega.{arith}
use borrow.Author.Tests.{le-leb, leb-false, leb-true}
use lib.ListN.{length-append, length, length-take}
use lib.Dec.{eqb, leb}
use Rattle.layout.specs.Directory.{type_of, is_file, blocks_of, file_blocks, size_of}
use Rattle.layout.specs.Geometry.{blocks_for, block_count, table_blocks}
use Rattle.layout.specs.Lists.{last_or}
use Rattle.layout.specs.Limits.{max_data}
use Rattle.layout.specs.Refusals.{require, first_of}
use Rattle.layout.specs.Paths.{parts, path_ok, leading, shallow, path_slot, entry_of, file_refusal}
use Rattle.layout.proofs.Laws.Looks.{good-given}
use Rattle.layout.specs.Table.{next, free_blocks}
use Rattle.layout.specs.Claims.{LowestFree}
use Rattle.volume.specs.Claims.{NoRoom}
use Rattle.volume.specs.Write.{new_size, needed, new_blocks, write_at_refusal, write_refusal}
use Rattle.layout.proofs.Laws.Sound.{Sound, Entry}
use Rattle.layout.proofs.Laws.Lists.{in-append, In, last-in}
use Rattle.layout.proofs.Laws.Tests.{and_split, is_false}
use Rattle.layout.proofs.Laws.Owners.{file-above, file-below, Fresh, free-fresh, free-lowest}
use Rattle.layout.proofs.Laws.Files.{length-file_blocks}

-- the blocks that a write takes
module _ (s : List ℕ) (e offset count : ℕ) where
  abbrev k : ℕ
  k = needed s e offset count

  pub new-lowest : LowestFree s (new_blocks s e offset count)
  unfolding new_blocks
  new-lowest = free-lowest s k

  pub new-fresh : Sound s → Fresh (block_count s) (next s) (new_blocks s e offset count)
  unfolding new_blocks
  new-fresh S = free-fresh s S k

  pub new-length : needed s e offset count ≤ length (free_blocks (next s) (block_count s)) → length (new_blocks s e offset count) ≡ needed s e offset count
  unfolding new_blocks
  new-length room = omega (arith, length-take k (free_blocks (next s) (block_count s)))

-- the blocks of a file with those that a write takes
module _ (s : List ℕ) (S : Sound s) (e : ℕ) (E : Entry s e) (file : is_file (type_of s e) ≡ true) (offset count : ℕ) where
  abbrev old : List ℕ
  old = file_blocks s e

  abbrev new : List ℕ
  new = new_blocks s e offset count

  pub all_above : (q : ℕ) → In q (old ++ new) → table_blocks (block_count s) < q
  all_above q i = ⊎_elim (λ a. file-above s S e E file q a) (λ a. (new-fresh s e offset count S).above q a) (in-append q old new i)

  pub all-below : (q : ℕ) → In q (old ++ new) → q < block_count s
  all-below q i = ⊎_elim (λ a. file-below s S e E file q a) (λ a. (new-fresh s e offset count S).below q a) (in-append q old new i)

  pub last-below : last_or 0 old < block_count s
  last-below = ⊎_elim (λ z. omega (arith, S.least)) (λ i. file-below s S e E file (last_or 0 old) i) (last-in old 0)

  pub all-length : length (old ++ new) ≡ blocks_of s e + length new
  all-length = length-append old new ∙ ap (λ (x : ℕ). x + length new) (length-file_blocks s e)

  pub all-size : blocks_of s e ≡ blocks_for (size_of s e) → needed s e offset count ≤ length (free_blocks (next s) (block_count s))
      → blocks_of s e + length new ≡ blocks_for (new_size s e offset count)
  unfolding new_size needed
  all-size renewed room = omega (arith, new-length s e offset count room)

-- a path is never refused with 14
never-14 : (t u v : Bool) → require t 9 (require u 17 (require v 10 0)) ≢ 14
never-14 false u v e = omega arith
never-14 true false v e = omega arith
never-14 true true false e = omega arith
never-14 true true true e = omega arith

pub file-never : (s path : List ℕ) → file_refusal s path ≢ 14
unfolding file_refusal
file-never s path = never-14 (path_ok path) (shallow (leading (parts path))) (not (eqb (path_slot is_file s path) 0))

-- when a write is refused with 14
module _ (s path : List ℕ) (offset count : ℕ) where
  abbrev free : ℕ
  free = length (free_blocks (next s) (block_count s))

  abbrev wanted : ℕ
  wanted = needed s (entry_of is_file s path) offset count

  only-14 : (t : Bool) (k : ℕ) (v w : Bool) → k ≢ 14 → require t 9 (first_of k (require v 12 (require w 14 0))) ≡ 14 → (t ≡ true) × (k ≡ 0) × (v ≡ true) × (w ≡ false)
  only-14 false k v w ne e = absurd (omega arith)
  only-14 true (suc k) v w ne e = absurd (ne e)
  only-14 true zero false w ne e = absurd (omega arith)
  only-14 true zero true true ne e = absurd (omega arith)
  only-14 true zero true false ne e = (refl, refl, refl, refl)

  pub refused-14 : write_refusal s path offset count ≡ 14 → NoRoom s path offset count
  unfolding write_refusal write_at_refusal
  refused-14 r =
      let a = only-14 (leb count max_data && path_ok path) (file_refusal s path) (leb offset (size_of s (entry_of is_file s path))) (leb wanted free) (file-never s path) r in
      record { few = leb-true _ _ (and_split (leb count max_data) (path_ok path) a.0).0; there = a.1; within-size = leb-true _ _ a.2; lacking = leb-false _ _ a.3 }

  pub lacking-14 : NoRoom s path offset count → write_refusal s path offset count ≡ 14
  unfolding write_refusal write_at_refusal
  lacking-14 g =
      rw (le-leb count max_data g.few, good-given s path g.there, g.there, le-leb offset (size_of s (entry_of is_file s path)) g.within-size, lt-leb)
    where
      lt-leb : leb wanted free ≡ false
      lt-leb = is_false (leb wanted free) (λ q. let z : wanted ≤ free = leb-true wanted free q in omega (arith, g.lacking))
