-- What the code of making a directory tests and writes.
use Prim.Native.Nat.{ℕ, ◌+◌, ◌-◌, ◌*◌, ◌/◌, ◌%◌, ◌≤◌, ◌<◌}
use mathlib.Core.Path.{◌≡◌, sym, ap, ◌∙◌}
use mathlib.Core.Bool.{true, false, ◌&&◌, and-false}
use mathlib.Core.List.{List, [], ◌∷◌, ◌++◌}
use native.Mathlib.Omega.{arith}
use lib.ListN.{length, get_or, take}
use lib.Dec.{eqb, leb}
use borrow.Author.Tests.{le-leb, lt-leb}
use Rattle.layout.specs.Limits.{max_directory}
use Rattle.layout.specs.Lists.{within}
use Rattle.layout.specs.Refusals.{require, first_of}
use Rattle.layout.specs.Bytes.{be32, splice}
use Rattle.layout.specs.Geometry.{block_count}
use Rattle.layout.specs.Table.{next, free_blocks}
use Rattle.layout.specs.Directory.{slot_at, blocks_of, is_directory}
use Rattle.layout.specs.Check.{check}
use Rattle.layout.specs.Paths.{parts, path_ok, last_part, shallow, home}
use Rattle.layout.specs.Walks.Looks.{whole_refusal}
use Rattle.layout.specs.Walks.Paths.{PathGiven}
use Rattle.layout.specs.Walks.Slots.{entry_at}
use Rattle.layout.proofs.Laws.Tests.{require-zero, first_of-refused}
use Rattle.layout.proofs.Laws.Chains.{chain_first}
use Rattle.layout.proofs.Laws.Owners.{free-count}
use Rattle.layout.proofs.Walks.Homes.{given-home}
use Rattle.layout.proofs.Walks.Shapes.{sound-shape}
use Rattle.layout.proofs.Laws.Sound.{sound}
use Rattle.volume.specs.Entries.{entry_bytes, directory_made, grown, entries_named, blocks_named}
use Rattle.volume.specs.Create.{place_refusal, new_refusal}
use Rattle.volume.specs.Write.{changed_entries}
use Rattle.volume.specs.Directories.{create_directory_refusal, new_directory_blocks, create_directory_image, create_directory_named}
use Rattle.volume.specs.Walks.Places.{brought_refusal, Vacant}
use Rattle.volume.specs.Walks.Marks.{marked}
use Rattle.volume.proofs.Laws.Frame.{changed-first}
use Rattle.volume.proofs.Laws.Places.{CreateDirectoryGiven, path-levels, place-there}
use Rattle.volume.proofs.Laws.Taken.{taken-many}
use Rattle.volume.proofs.Walks.Places.{brought-first}
use Rattle.volume.proofs.Walks.Create.{vacant-block}
use Rattle.volume.proofs.Walks.Taken.{taken_at, taken-length}

-- the refusal, test by test
module _ (s path : List ℕ) (type flags d : ℕ) where
  pub create-directory-shape : false ≡ (is_directory type && within 1 max_directory d) → 9 ≡ create_directory_refusal s path type flags d
  unfolding create_directory_refusal
  create-directory-shape h = rw (← h, and-false (path_ok path))

  module _ (f : true ≡ (is_directory type && within 1 max_directory d)) where
    pub create-directory-brought : (r : ℕ) → r ≡ brought_refusal (whole_refusal path) flags → (r ≡ 0 → ⊥) → r ≡ create_directory_refusal s path type flags d
    unfolding brought_refusal whole_refusal create_directory_refusal new_refusal
    create-directory-brought r e ne = rw (← f) (e ∙ brought-first (path_ok path) (shallow (parts path)) (eqb flags 0) _ (λ q. rw q) (λ z. ne (e ∙ z)))

    module _ (w : 0 ≡ whole_refusal path) (none : eqb flags 0 ≡ true) where
      by_place : create_directory_refusal s path type flags d ≡ first_of (place_refusal s path) (require (leb d (length (free_blocks (next s) (block_count s)))) 14 0)
      unfolding whole_refusal create_directory_refusal new_refusal
      by_place =
          let a = require-zero (path_ok path) 8 _ (sym w) in
          let b = require-zero (shallow (parts path)) 16 0 a.1 in
          rw (← f, a.0, b.0, none)

      pub create-directory-place : (place_refusal s path ≡ 0 → ⊥) → place_refusal s path ≡ create_directory_refusal s path type flags d
      create-directory-place ne = sym (by_place ∙ first_of-refused (place_refusal s path) (require (leb d (length (free_blocks (next s) (block_count s)))) 14 0) ne)

      module _ (z : place_refusal s path ≡ 0) (ok : check s ≡ 0) (free : ℕ) (ef : free ≡ be32 s 24) where
        decided : create_directory_refusal s path type flags d ≡ require (leb d free) 14 0
        decided = by_place ∙ rw (z, free-count s (sound s ok), ← ef)

        pub create-directory-full : free < d → 14 ≡ create_directory_refusal s path type flags d
        create-directory-full h = sym (decided ∙ rw (lt-leb d free h))

        pub create-directory-fine : d ≤ free → 0 ≡ create_directory_refusal s path type flags d
        create-directory-fine h = sym (decided ∙ rw (le-leb d free h))

-- an accepted one
pub directory-path : {s path : List ℕ} {type flags d : ℕ} → check s ≡ 0 → CreateDirectoryGiven s path type flags d → PathGiven s path
directory-path ok g = record { sound = ok; good = g.good; few = (path-levels _ g.good g.deep).0 }

-- the blocks named
pub create-directory-marked : (s : List ℕ) (b d : ℕ) (m : List ℕ)
    → marked (marked m (b ∷ [])) (take d (free_blocks (next s) (block_count s)) ++ entries_named (changed_entries 0 (take d (free_blocks (next s) (block_count s)))))
    ≡ marked m (b ∷ blocks_named (new_directory_blocks s d))
unfolding marked new_directory_blocks blocks_named
create-directory-marked s b d m = rw (changed-first (take d (free_blocks (next s) (block_count s))))

pub create-directory-named : {s path : List ℕ} {h k b : ℕ} → Vacant s path h k b → (d : ℕ) (m : List ℕ) → marked m (b ∷ blocks_named (new_directory_blocks s d)) ≡ marked m (create_directory_named s path d)
unfolding create_directory_named
create-directory-named v d m = rw (vacant-block v)

-- what is written
module _ {s path : List ℕ} {h k b : ℕ} (v : Vacant s path h k b) (d : ℕ) (ok : check s ≡ 0) (d₁ : 1 ≤ d) (room : d ≤ length (free_blocks (next s) (block_count s))) where
  abbrev new : List ℕ
  new = take d (free_blocks (next s) (block_count s))

  -- the blocks that are written lie in the image
  home_below : PathGiven s path → place_refusal s path ≡ 0 → h < block_count s
  home_below G r =
      let D = given-home s path G (place-there s path r) in
      let x : ℕ = home s path in
      let c = chain_first (next s) x (blocks_of s (512 * x)) D.blocks.some in
      omega (arith, v.there, c, D.blocks.below 0 D.blocks.some)

  pub create-directory-room : PathGiven s path → place_refusal s path ≡ 0 → (first last : ℕ) → first ≡ get_or new 0 0 → last ≡ get_or new (d - 1) 0 → (t : List ℕ) → t ≡ grown s (block_count s) 0 new
      → (512 * first + 512 ≤ length t) × (512 * last + 512 ≤ length t) × (first < 4294967296) × (h < 4294967296)
  create-directory-room G placed first last ef el t et =
      let l : length t ≡ 512 * block_count s = ap length et ∙ taken-length s ok d d₁ room in
      let z = sound-shape s ok in
      let x = taken_at s ok d d₁ room 0 (omega arith) in
      let y = taken_at s ok d d₁ room (d - 1) (omega arith) in
      let w = home_below G placed in
      (omega arith, omega arith, omega (arith, z.high), omega (arith, z.high))

  module _ (first last time : ℕ) (name : List ℕ) (en : name ≡ last_part (parts path)) (ef : first ≡ get_or new 0 0) (el : last ≡ get_or new (d - 1) 0) (t u : List ℕ)
      (et : t ≡ grown s (block_count s) 0 new)
      (eu : u ≡ splice (splice t (512 * first) (entry_bytes 1 0 0 0 first h d time 0 name)) (512 * last + 384) (0xFF ∷ []))
    where
      made-is : u ≡ directory_made (grown s (block_count s) 0 new) new (home s path) time (last_part (parts path))
      unfolding directory_made slot_at
      made-is =
          let q : (4 * d - 1) / 4 ≡ d - 1 = omega arith in
          let m : (4 * d - 1) % 4 ≡ 3 = omega arith in
          eu ∙ rw (et, en, ef, el, v.there, taken-many s (sound s ok) d d₁ room, q, m)

      pub create-directory-written : (type user group permissions flags : ℕ) (last_name : List ℕ) → last_name ≡ last_part (parts path)
          → splice u (entry_at b k) (entry_bytes type user group permissions first 0 d time flags last_name) ≡ create_directory_image s path type user group permissions flags time d
      unfolding create_directory_image new_directory_blocks
      create-directory-written type user group permissions flags last_name e = rw (made-is, v.here, ef, e)
