-- The refusals of a write, and what an accepted one has.
use Prim.Native.Nat.{ℕ, ◌+◌, ◌-◌, ◌≤◌, ◌<◌, max}
use mathlib.Core.Path.{◌≡◌, refl, sym, ap, ◌∙◌}
use mathlib.Core.Bool.{Bool, true, false, not}
use mathlib.Core.List.{List}
use native.Mathlib.Omega.{arith}
use lib.Dec.{eqb, leb}
use borrow.Author.Tests.{le-leb, lt-leb}
use Rattle.layout.specs.Refusals.{require, first_of}
use Rattle.layout.specs.Bytes.{be32}
use Rattle.layout.specs.Limits.{max_blocks, max_data}
use Rattle.layout.specs.Geometry.{block_count, blocks_for}
use Rattle.layout.specs.Table.{next}
use Rattle.layout.specs.Directory.{type_of, is_file}
use Rattle.layout.specs.Check.{check}
use Rattle.layout.specs.Paths.{parts, path_ok, leading, shallow, path_slot, entry_of, file_refusal}
use Rattle.volume.specs.Write.{new_size, needed, write_at_refusal, write_refusal}
use Rattle.layout.specs.Walks.Looks.{Located}
use Rattle.layout.specs.Walks.Slots.{entry_at}
use Rattle.volume.specs.Walks.Targets.{Standing}
use Rattle.layout.proofs.Walks.Looks.{located-ok}
use Rattle.layout.proofs.Laws.Looks.{path-file}
use Rattle.layout.proofs.Laws.Chains.{chain_ok-split}
use Rattle.layout.proofs.Laws.Counts.{chain-most}
use Rattle.layout.proofs.Walks.Shapes.{sound-shape}
use Rattle.layout.proofs.Laws.Tests.{first_of-refused}
use Rattle.volume.proofs.Laws.Places.{At}
use Rattle.layout.proofs.Laws.Owners.{free-count}
use Rattle.layout.proofs.Laws.Sound.{sound}

-- the entry of a path is of the type asked for
pub at_typed : (type : ℕ → Bool) (s path : List ℕ) → At type s path → type (type_of s (entry_of type s path)) ≡ true
unfolding entry_of
at_typed type s path A = A.named.typed

module _ (s path : List ℕ) (offset count : ℕ) where
  pub data-long : max_data < count → 9 ≡ write_refusal s path offset count
  unfolding write_refusal
  data-long h = rw (lt-leb count max_data h)

  module _ (few : count ≤ max_data) where
    by-path : write_refusal s path offset count ≡ first_of (file_refusal s path) (write_at_refusal s (entry_of is_file s path) offset count)
    unfolding write_refusal file_refusal
    by-path =
        rw (le-leb count max_data few)
        (go (path_ok path) (require (shallow (leading (parts path))) 17 (require (not (eqb (path_slot is_file s path) 0)) 10 0)) (write_at_refusal s (entry_of is_file s path) offset count))
      where
        go : (a : Bool) (y x : ℕ) → require a 9 (first_of (require a 9 y) x) ≡ first_of (require a 9 y) x
        go true y x = refl
        go false y x = refl

    pub path-refused : (file_refusal s path ≡ 0 → ⊥) → file_refusal s path ≡ write_refusal s path offset count
    path-refused h = sym (by-path ∙ first_of-refused (file_refusal s path) (write_at_refusal s (entry_of is_file s path) offset count) h)

    pub by-entry : file_refusal s path ≡ 0 → {slot b first size blocks : ℕ} → Located is_file s path slot b first size blocks → write_at_refusal s (entry_at b slot) offset count ≡ write_refusal s path offset count
    by-entry z o = sym (by-path ∙ rw (z, ← o.place))

-- the refusal of a write to a file that was found
module _ {s : List ℕ} {slot b first size blocks : ℕ} (st : Standing s (file_refusal s) slot b first size blocks) (offset count : ℕ) where
  o : Located is_file s st.path slot b first size blocks
  o = st.located

  pub offset-far : size < offset → 12 ≡ write_at_refusal s (entry_at b slot) offset count
  unfolding write_at_refusal
  offset-far h = rw (o.place, ← o.bytes, lt-leb offset size h)

  module _ (ok : check s ≡ 0) (near : offset ≤ size) (free need : ℕ) (ef : free ≡ be32 s 24) (en : need ≡ blocks_for (max size (offset + count)) - blocks) where
    decided : write_at_refusal s (entry_at b slot) offset count ≡ require (leb need free) 14 0
    unfolding write_at_refusal needed new_size
    decided = rw (o.place, free-count s (sound s ok), ← o.bytes, ← o.count, le-leb offset size near, ← en, ← ef)

    pub room-none : free < need → 14 ≡ write_at_refusal s (entry_at b slot) offset count
    room-none h = sym (decided ∙ rw (lt-leb need free h))

    pub room-there : need ≤ free → 0 ≡ write_at_refusal s (entry_at b slot) offset count
    room-there h = sym (decided ∙ rw (le-leb need free h))

-- the sizes of a file that was opened
module _ {s path : List ℕ} {slot b first size blocks : ℕ} (o : Located is_file s path slot b first size blocks) (z : file_refusal s path ≡ 0) (ok : check s ≡ 0) where
  pub blocks-for : blocks ≡ blocks_for size
  blocks-for = o.count ∙ (path-file s path z ok).blocks ∙ ap blocks_for (sym o.bytes)

  pub blocks-most : blocks ≤ max_blocks
  blocks-most =
      let h = sound-shape s ok in
      omega (arith, chain-most (next s) (block_count s) first blocks (chain_ok-split (next s) (block_count s) first blocks (located-ok o z ok)) h.low, h.high)
