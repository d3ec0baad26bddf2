-- The attributes of a file, by its path: the room for a set and the refusal for want of it, the blocks that a set takes, the image without the old ones.
use Prim.Native.Nat.{ℕ, zero, suc, ◌+◌, ◌*◌, ◌/◌, ◌%◌, ◌≤◌, ◌<◌}
use mathlib.Core.Path.{◌≡◌, refl, sym, ap, ◌∙◌}
use mathlib.Core.Bool.{Bool, true, false, ◌&&◌, ◌||◌, or-true, cond}
use mathlib.Core.List.{List, ◌++◌}
use mathlib.Core.Logic.{◌⊎◌, inl, inr, ◌≢◌}
use native.Mathlib.Omega.{arith}
use borrow.Author.Tests.{eq-eqb, eqb-true, le-leb, leb-true, leb-false}
use lib.ListN.{length, get_or}
use lib.Dec.{eqb, leb}
use Rattle.layout.specs.Limits.{max_attributes}
use Rattle.layout.specs.Lists.{has, distinct}
use Rattle.layout.specs.Refusals.{require, first_of}
use Rattle.layout.specs.Bytes.{be32}
use Rattle.layout.specs.Geometry.{block_count}
use Rattle.layout.specs.Table.{next, free_blocks}
use Rattle.layout.specs.Directory.{type_of, attribute_size_of, is_file, file_blocks, attribute_blocks}
use Rattle.layout.specs.Claims.{LowestFree}
use Rattle.layout.specs.Check.{check}
use Rattle.layout.specs.Paths.{path_ok, home, path_slot, entry_of, file_refusal}
use Rattle.volume.specs.Delete.{all_blocks}
use Rattle.volume.specs.Attributes.{emptied, new_attributes, set_attributes_at, set_attributes_refusal}
use Rattle.volume.specs.Claims.{NoRoomForSet}
use Rattle.volume.specs.Walks.Searches.{Growable}
use Rattle.volume.proofs.Laws.Places.{At, file-at-path, set-path, set_given}
use Rattle.volume.proofs.Laws.Space.{file-never}
use Rattle.volume.proofs.Laws.Delete.{deleted-once}
use Rattle.volume.proofs.Laws.Attributes.{set_room, emptied-growable, emptied-next, emptied-at, set-lowest, set-length, first_small}
use Rattle.volume.proofs.Laws.SetClear.{set-blocks}
use Rattle.volume.proofs.Laws.Framed.{at_entry}
use Rattle.layout.proofs.Laws.Tests.{and_split, is_false, true-or-false, true-not-false}
use Rattle.layout.proofs.Laws.Lists.{has-eqb-in, in-has-eqb}
use Rattle.layout.proofs.Laws.Sound.{Sound, Entry, sound}
use Rattle.layout.proofs.Laws.Files.{length-attribute_blocks}
use Rattle.layout.proofs.Laws.Owners.{free-count}
use Rattle.layout.proofs.Laws.Looks.{good-given}

-- the file of an accepted path
module _ (s path : List ℕ) (ok : check s ≡ 0) (found : file_refusal s path ≡ 0) where
  abbrev e : ℕ
  e = entry_of is_file s path

  abbrev n : ℕ
  n = block_count s

  S : Sound s
  S = sound s ok

  A : At is_file s path
  A = file-at-path s path found

  E : Entry s e
  E = at_entry s S is_file path A

  file : is_file (type_of s e) ≡ true
  unfolding entry_of
  file = A.named.typed

  -- what the code tests: the free blocks that the header counts, and those of the old chain
  pub room-is : length (free_blocks (next (emptied s (entry_of is_file s path))) (block_count s)) ≡ be32 s 24 + attribute_size_of s (entry_of is_file s path)
  room-is = set_room s S e E file

  free-and-old : length (free_blocks (next (emptied s e)) n) ≡ length (free_blocks (next s) n) + length (attribute_blocks s e)
  free-and-old = let l = length-attribute_blocks s e in omega (arith, room-is, free-count s S)

  pub room-growable : (count : ℕ) → count ≤ length (free_blocks (next (emptied s (entry_of is_file s path))) (block_count s)) → Growable (emptied s (entry_of is_file s path)) (block_count s) 0 count
  room-growable = emptied-growable s S e E file

  -- the table without the old chain
  pub emptied-entry : (b : ℕ) → b < block_count s → next (emptied s (entry_of is_file s path)) b ≡ cond (has eqb b (attribute_blocks s (entry_of is_file s path))) 0 (next s b)
  emptied-entry b h = go (true-or-false (has eqb b (attribute_blocks s e)))
    where
      go : (has eqb b (attribute_blocks s e) ≡ true) ⊎ (has eqb b (attribute_blocks s e) ≡ false) → next (emptied s e) b ≡ cond (has eqb b (attribute_blocks s e)) 0 (next s b)
      go (inl t) = rw t (emptied-at s S e E file b (has-eqb-in b (attribute_blocks s e) t))
      go (inr f) = rw f (emptied-next s S e E file b (omega (arith, S.least)) (λ i. true-not-false (in-has-eqb b (attribute_blocks s e) i) f))

  pub free-once-emptied : (b : ℕ) → b < block_count s
      → eqb (next (emptied s (entry_of is_file s path)) b) 0 ≡ eqb (next s b) 0 || has eqb b (attribute_blocks s (entry_of is_file s path))
  free-once-emptied b h = ap (λ (v : ℕ). eqb v 0) (emptied-entry b h) ∙ go (has eqb b (attribute_blocks s e)) (eqb (next s b) 0) refl
    where
      go : (t u : Bool) → eqb (next s b) 0 ≡ u → eqb (cond t 0 (next s b)) 0 ≡ u || t
      go true u q = sym (or-true u)
      go false true q = q
      go false false q = q

  -- its two chains share no block
  pub chains-once : distinct eqb (file_blocks s (entry_of is_file s path) ++ attribute_blocks s (entry_of is_file s path)) ≡ true
  unfolding entry_of all_blocks
  chains-once = let N = A.named in deleted-once s S (home s path, A.level) A.home-in (path_slot is_file s path) N.low N.high N.typed

-- the blocks that a set takes
module _ (s path : List ℕ) (ok : check s ≡ 0) (bytes : List ℕ) (r : set_attributes_refusal s path (length bytes) ≡ 0) where
  abbrev there : file_refusal s path ≡ 0
  there = set-path s path (length bytes) r

  pub set-taken : attribute_blocks (set_attributes_at s (entry_of is_file s path) bytes) (entry_of is_file s path) ≡ new_attributes s (entry_of is_file s path) (length bytes)
  unfolding entry_of
  set-taken =
      let A = file-at-path s path there in
      let N = A.named in
      set-blocks s (sound s ok) (home s path, A.level) A.home-in (path_slot is_file s path) N.low N.high N.typed bytes (set_given s path (length bytes) r)

  pub set-many : length (new_attributes s (entry_of is_file s path) (length bytes)) ≡ length bytes / 512
  set-many = set-length s (sound s ok) (entry_of is_file s path) (E s path ok there) (file s path ok there) bytes (set_given s path (length bytes) r)

  pub set-lowest-free : LowestFree (emptied s (entry_of is_file s path)) (new_attributes s (entry_of is_file s path) (length bytes))
  set-lowest-free = set-lowest s (sound s ok) (entry_of is_file s path) (E s path ok there) (file s path ok there) bytes (set_given s path (length bytes) r)

  pub set-first-small : get_or (new_attributes s (entry_of is_file s path) (length bytes)) 0 0 < 0x100000000
  set-first-small = first_small s (sound s ok) (entry_of is_file s path) (E s path ok there) (file s path ok there) bytes (set_given s path (length bytes) r)

-- when a set is refused with 14
module _ (s path : List ℕ) (count : ℕ) (ok : check s ≡ 0) where
  abbrev free : ℕ
  free = length (free_blocks (next (emptied s (entry_of is_file s path))) (block_count s))

  only-14 : (t u : Bool) (k : ℕ) (w : Bool) → k ≢ 14 → require t 9 (require u 20 (first_of k (require w 14 0))) ≡ 14 → (t ≡ true) × (u ≡ true) × (k ≡ 0) × (w ≡ false)
  only-14 false u k w ne q = absurd (omega arith)
  only-14 true false k w ne q = absurd (omega arith)
  only-14 true true (suc k) w ne q = absurd (ne q)
  only-14 true true zero true ne q = absurd (omega arith)
  only-14 true true zero false ne q = (refl, refl, refl, refl)

  pub set-refused-14 : set_attributes_refusal s path count ≡ 14 → NoRoomForSet s path count
  unfolding set_attributes_refusal
  set-refused-14 r =
      let a = only-14 (path_ok path && (leb 1 count && eqb (count % 512) 0)) (leb count (512 * max_attributes)) (file_refusal s path) (leb (count / 512) free) (file-never s path) r in
      let b = and_split (leb 1 count) _ (and_split (path_ok path) _ a.0).1 in
      let less = leb-false (count / 512) free a.3 in
      record { some = leb-true _ _ b.0; whole = eqb-true _ _ b.1; few = leb-true _ _ a.1; there = a.2; lacking = omega (arith, free-and-old s path ok a.2) }

  pub set-lacking-14 : NoRoomForSet s path count → set_attributes_refusal s path count ≡ 14
  unfolding set_attributes_refusal
  set-lacking-14 g =
      let few : leb (count / 512) free ≡ false =
      is_false (leb (count / 512) free) (λ q. let z : count / 512 ≤ free = leb-true (count / 512) free q in omega (arith, g.lacking, free-and-old s path ok g.there)) in
      rw (good-given s path g.there, le-leb 1 count g.some, eq-eqb (count % 512) 0 g.whole, le-leb count (512 * max_attributes) g.few, g.there, few)
