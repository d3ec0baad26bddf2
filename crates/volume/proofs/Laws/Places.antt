-- Where a new entry goes, by the path of an accepted call: a free slot of a directory of the tree, and no slot of that directory has the name.
use Prim.Native.Nat.{ℕ, suc, ◌-◌, ◌*◌, ◌/◌, ◌%◌, ◌≤◌, ◌<◌}
use mathlib.Core.Path.{◌≡◌, refl, sym, ap}
use mathlib.Core.Bool.{Bool, true, not, ◌&&◌}
use mathlib.Core.List.{List, [], ◌∷◌}
use mathlib.Core.Logic.{◌≢◌}
use native.Mathlib.Omega.{arith}
use lib.ListN.{length}
use lib.Dec.{eqb, leb}
use borrow.Author.Tests.{eqb-true, eqb-false, not-true, ne_eqb, leb-true, le-leb}
use Rattle.layout.specs.Limits.{max_levels, max_directory, max_data, max_attributes}
use Rattle.layout.specs.Lists.{every, within}
use Rattle.layout.specs.Directory.{slot_at, type_of, size_of, is_used, is_file, is_directory, name_of, good_name, free_slot, slot_of, directory, dirs}
use Rattle.layout.specs.Paths.{parts, path_ok, leading, last_part, shallow, home, path_slot, entry_of, file_refusal, directory_refusal}
use Rattle.layout.specs.Geometry.{block_count}
use Rattle.layout.specs.Table.{next, free_blocks}
use Rattle.volume.specs.Write.{needed, write_at_refusal, write_refusal}
use Rattle.volume.specs.Attributes.{emptied, set_attributes_refusal}
use Rattle.volume.specs.Create.{place_refusal, new_refusal, create_refusal, place, create_slot}
use Rattle.volume.specs.Directories.{create_directory_refusal}
use Rattle.layout.proofs.Laws.Tests.{and_split, require-zero, first_of-zero, within-split}
use Rattle.layout.proofs.Laws.Lists.{In}
use Rattle.layout.proofs.Laws.Trees.{size_at}
use Rattle.layout.proofs.Laws.Files.{free-slot}
use Rattle.layout.proofs.Laws.Paths.{Named, slot-unnamed, home-in-tree, home_found, path-named, path-home}

-- a path in which the last part counts as a directory leaves a level for it
pub leading-shorter : (ps : List (List ℕ)) → 1 ≤ length ps → suc (length (leading ps)) ≡ length ps
leading-shorter [] h = absurd (omega arith)
leading-shorter (p ∷ []) h = refl
leading-shorter (p ∷ q ∷ ps) h = ap suc (leading-shorter (q ∷ ps) (omega arith))

pub path-levels : (path : List ℕ) → path_ok path ≡ true → shallow (parts path) ≡ true → (shallow (leading (parts path)) ≡ true) × (suc (max_levels - suc (length (leading (parts path)))) ≡ max_levels - length (leading (parts path)))
unfolding path_ok shallow
path-levels path ok h =
    let a = leb-true 1 (length (parts path)) (and_split (leb 1 (length (parts path))) (every good_name (parts path)) ok).0 in
    let b = leb-true (length (parts path)) max_levels h in
    let c = leading-shorter (parts path) a in
    (le-leb (length (leading (parts path))) max_levels (omega arith), omega arith)

-- the last part of a good path is a good name
last-good : (ps : List (List ℕ)) → 1 ≤ length ps → every good_name ps ≡ true → good_name (last_part ps) ≡ true
last-good [] h e = absurd (omega arith)
last-good (p ∷ []) h e = (and_split (good_name p) true e).0
last-good (p ∷ q ∷ ps) h e = last-good (q ∷ ps) (omega arith) (and_split (good_name p) (every good_name (q ∷ ps)) e).1

pub path-name : (path : List ℕ) → path_ok path ≡ true → good_name (last_part (parts path)) ≡ true
unfolding path_ok
path-name path ok =
    let a = and_split (leb 1 (length (parts path))) (every good_name (parts path)) ok in
    last-good (parts path) (leb-true 1 (length (parts path)) a.0) a.1

module _ (s path : List ℕ) (ok : place_refusal s path ≡ 0) where
  abbrev b : ℕ
  b = home s path

  abbrev k : ℕ
  k = free_slot s (directory s (home s path))

  record PlaceGiven : Type 0 where
    there : home s path ≢ 0
    none : slot_of is_used s (directory s (home s path)) (last_part (parts path)) ≡ 0
    some : free_slot s (directory s (home s path)) ≢ 0

  place-given : PlaceGiven
  unfolding place_refusal path_slot
  place-given =
      let x = require-zero (not (eqb (home s path) 0)) 9 _ ok in
      let y = require-zero (eqb (path_slot is_used s path) 0) 10 _ x.1 in
      let z = require-zero (not (eqb (free_slot s (directory s (home s path))) 0)) 12 _ y.1 in
      let h = not-true _ x.0 in
      record { there = eqb-false _ _ h; none = let q : path_slot is_used s path ≡ 0 = eqb-true _ _ y.0 in rw h at q; some = eqb-false _ _ (not-true _ z.0) }

  pub place-there : home s path ≢ 0
  place-there = place-given.there

  pub place_is : place s path ≡ slot_at (directory s b) k
  unfolding place create_slot
  place_is = refl

  pub place-home : shallow (leading (parts path)) ≡ true → In (b, max_levels - length (leading (parts path))) (dirs s)
  place-home h = home-in-tree s path h place-given.there

  pub place-free : (1 ≤ k) × (k < 4 * size_at s b - 1) × (type_of s (slot_at (directory s b) k) ≡ 0)
  place-free = free-slot s b place-given.some

  pub place-new : (j : ℕ) → 1 ≤ j → j < 4 * size_at s b - 1 → type_of s (slot_at (directory s b) j) ≢ 0 → last_part (parts path) ≢ name_of s (slot_at (directory s b) j)
  place-new j h g u q =
      slot-unnamed is_used s b (last_part (parts path)) place-given.none j
      (record { low = h; high = g; typed = rw (ne_eqb (type_of s (slot_at (directory s b) j)) 0 u); named = sym q })

-- what an accepted create has, of a file
pub record CreateGiven (s path : List ℕ) (type flags : ℕ) : Type 0 where
  pub good : path_ok path ≡ true
  pub file : is_file type ≡ true
  pub short : shallow (leading (parts path)) ≡ true
  pub flagless : flags ≡ 0
  pub placed : place_refusal s path ≡ 0

new-given : (s path : List ℕ) (flags : ℕ) → new_refusal s path flags ≡ 0 → (flags ≡ 0) × (place_refusal s path ≡ 0)
unfolding new_refusal
new-given s path flags r = let a = require-zero (eqb flags 0) 25 _ r in (eqb-true _ _ a.0, a.1)

pub create-given : (s path : List ℕ) (type flags : ℕ) → create_refusal s path type flags ≡ 0 → CreateGiven s path type flags
unfolding create_refusal
create-given s path type flags r =
    let a = require-zero (path_ok path && is_file type) 8 _ r in
    let b = and_split (path_ok path) (is_file type) a.0 in
    let h = require-zero (shallow (leading (parts path))) 16 _ a.1 in
    let n = new-given s path flags h.1 in
    record { good = b.0; file = b.1; short = h.0; flagless = n.0; placed = n.1 }

-- and of a directory of d blocks
pub record CreateDirectoryGiven (s path : List ℕ) (type flags d : ℕ) : Type 0 where
  pub good : path_ok path ≡ true
  pub dir : is_directory type ≡ true
  pub least : 1 ≤ d
  pub most : d ≤ max_directory
  pub deep : shallow (parts path) ≡ true
  pub flagless : flags ≡ 0
  pub placed : place_refusal s path ≡ 0
  pub room : d ≤ length (free_blocks (next s) (block_count s))

pub create-directory-given : (s path : List ℕ) (type flags d : ℕ) → create_directory_refusal s path type flags d ≡ 0 → CreateDirectoryGiven s path type flags d
unfolding create_directory_refusal
create-directory-given s path type flags d r =
    let a = require-zero (path_ok path && (is_directory type && within 1 max_directory d)) 8 _ r in
    let b = and_split (path_ok path) _ a.0 in
    let f = and_split (is_directory type) _ b.1 in
    let g = within-split 1 max_directory d f.1 in
    let h = require-zero (shallow (parts path)) 16 _ a.1 in
    let i = first_of-zero (new_refusal s path flags) _ h.1 in
    let n = new-given s path flags i.0 in
    let m = require-zero (leb d (length (free_blocks (next s) (block_count s)))) 13 _ i.1 in
    record { good = b.0; dir = f.0; least = g.0; most = g.1; deep = h.0; flagless = n.0; placed = n.1; room = leb-true _ _ m.0 }

-- the entry that an accepted path names
pub record At (type : ℕ → Bool) (s path : List ℕ) : Type 0 where
  pub good : path_ok path ≡ true
  pub short : shallow (leading (parts path)) ≡ true
  pub there : home s path ≢ 0
  pub level : ℕ
  pub home-in : In (home s path, level) (dirs s)
  pub named : Named type s (home s path) (last_part (parts path)) (path_slot type s path)

pub file-at-path : (s path : List ℕ) → file_refusal s path ≡ 0 → At is_file s path
unfolding file_refusal
file-at-path s path r =
    let a = require-zero (path_ok path) 8 _ r in
    let b = require-zero (shallow (leading (parts path))) 16 _ a.1 in
    let f = require-zero (not (eqb (path_slot is_file s path) 0)) 9 _ b.1 in
    let ne = eqb-false _ _ (not-true _ f.0) in
    record { good = a.0; short = b.0; there = home_found is_file s path ne; level = max_levels - length (leading (parts path)); home-in = path-home is_file s path ne b.0; named = path-named is_file s path ne }

-- and back: the path of an entry is accepted
pub at-accepted : (s path : List ℕ) → At is_file s path → file_refusal s path ≡ 0
unfolding file_refusal
at-accepted s path A = let l = A.named.low in rw (A.good, A.short, ne_eqb (path_slot is_file s path) 0 (λ z. omega arith))

pub directory-at-path : (s path : List ℕ) → directory_refusal s path ≡ 0 → At is_directory s path
unfolding directory_refusal
directory-at-path s path r =
    let a = require-zero (path_ok path) 8 _ r in
    let b = require-zero (shallow (parts path)) 16 _ a.1 in
    let f = require-zero (not (eqb (path_slot is_directory s path) 0)) 9 _ b.1 in
    let ne = eqb-false _ _ (not-true _ f.0) in
    let l = path-levels path a.0 b.0 in
    record { good = a.0; short = l.0; there = home_found is_directory s path ne; level = max_levels - length (leading (parts path)); home-in = path-home is_directory s path ne l.0; named = path-named is_directory s path ne }

-- what an accepted write has, but for the limit on its data: a write of any length is told by these
pub record WriteGiven (s path : List ℕ) (offset count : ℕ) : Type 0 where
  pub there : At is_file s path
  pub within-size : offset ≤ size_of s (entry_of is_file s path)
  pub room : needed s (entry_of is_file s path) offset count ≤ length (free_blocks (next s) (block_count s))

pub write-at-given : (s path : List ℕ) (offset count : ℕ) → file_refusal s path ≡ 0 → write_at_refusal s (entry_of is_file s path) offset count ≡ 0 → WriteGiven s path offset count
unfolding write_at_refusal
write-at-given s path offset count z r =
    let g = require-zero (leb offset (size_of s (entry_of is_file s path))) 11 _ r in
    let h = require-zero (leb (needed s (entry_of is_file s path) offset count) (length (free_blocks (next s) (block_count s)))) 13 _ g.1 in
    record { there = file-at-path s path z; within-size = leb-true _ _ g.0; room = leb-true _ _ h.0 }

pub write-at : (s path : List ℕ) (offset count : ℕ) → write_refusal s path offset count ≡ 0 → (file_refusal s path ≡ 0) × (write_at_refusal s (entry_of is_file s path) offset count ≡ 0)
unfolding write_refusal
write-at s path offset count r = first_of-zero (file_refusal s path) _ (require-zero (leb count max_data && path_ok path) 8 _ r).1

pub write-given : (s path : List ℕ) (offset count : ℕ) → write_refusal s path offset count ≡ 0 → WriteGiven s path offset count
write-given s path offset count r = let y = write-at s path offset count r in write-at-given s path offset count y.0 y.1

-- what an accepted set has, of the file whose entry is at e
pub record SetGiven (s : List ℕ) (e count : ℕ) : Type 0 where
  pub some : 1 ≤ count
  pub blocks : count % 512 ≡ 0
  pub few : count ≤ 512 * max_attributes
  pub room : count / 512 ≤ length (free_blocks (next (emptied s e)) (block_count s))

module _ (s path : List ℕ) (count : ℕ) (r : set_attributes_refusal s path count ≡ 0) where
  pub set-path : file_refusal s path ≡ 0
  unfolding set_attributes_refusal
  set-path =
      let a = require-zero (path_ok path && (leb 1 count && eqb (count % 512) 0)) 8 _ r in
      let b = require-zero (leb count (512 * max_attributes)) 19 _ a.1 in
      (first_of-zero (file_refusal s path) _ b.1).0

  pub set_given : SetGiven s (entry_of is_file s path) count
  unfolding set_attributes_refusal
  set_given =
      let a = require-zero (path_ok path && (leb 1 count && eqb (count % 512) 0)) 8 _ r in
      let p = and_split (path_ok path) _ a.0 in
      let q = and_split (leb 1 count) _ p.1 in
      let b = require-zero (leb count (512 * max_attributes)) 19 _ a.1 in
      let c = first_of-zero (file_refusal s path) _ b.1 in
      let d = require-zero (leb (count / 512) (length (free_blocks (next (emptied s (entry_of is_file s path))) (block_count s)))) 13 _ c.1 in
      record { some = leb-true _ _ q.0; blocks = eqb-true _ _ q.1; few = leb-true _ _ b.0; room = leb-true _ _ d.0 }
