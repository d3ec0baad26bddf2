-- What the code of removing a directory tests: the directory of an accepted path, with its chain.
use Prim.Native.Nat.{ℕ, suc, ◌-◌, ◌*◌}
use mathlib.Core.Path.{◌≡◌, sym}
use mathlib.Core.Bool.{true, false, not}
use mathlib.Core.List.{List, [], append-nil}
use lib.ListN.{length}
use lib.Dec.{eqb}
use borrow.Author.Tests.{eqb-false, not-true}
use Rattle.layout.specs.Limits.{max_levels}
use Rattle.layout.specs.Refusals.{require}
use Rattle.layout.specs.Geometry.{block_count}
use Rattle.layout.specs.Table.{next, chain, chain_ok}
use Rattle.layout.specs.Directory.{slot_at, first_block, blocks_of, attribute_size_of, is_directory, is_empty, directory, dirs, file_blocks, attribute_blocks}
use Rattle.layout.specs.Check.{check}
use Rattle.layout.specs.Paths.{parts, path_ok, leading, shallow, home, path_slot, entry_of, directory_refusal}
use Rattle.layout.specs.Walks.Looks.{Located}
use Rattle.layout.specs.Walks.Shapes.{DirectoryAt}
use Rattle.volume.specs.Directories.{delete_directory_refusal}
use Rattle.volume.specs.Delete.{all_blocks}
use Rattle.volume.specs.Walks.Drops.{Droppable}
use Rattle.layout.proofs.Laws.Tests.{require-zero, first_of-zero, first_of-refused}
use Rattle.layout.proofs.Laws.Lists.{In}
use Rattle.layout.proofs.Laws.Chains.{Chain, chain_ok-join, chain-distinct}
use Rattle.layout.proofs.Laws.Sound.{sound}
use Rattle.layout.proofs.Laws.Slots.{slot-ok}
use Rattle.layout.proofs.Laws.Owners.{directory-slot-ok, directory-attributes}
use Rattle.layout.proofs.Laws.Goes.{gone-in}
use Rattle.layout.proofs.Laws.Paths.{path-named, path-home}
use Rattle.layout.proofs.Walks.Homes.{sound-directory}
use Rattle.volume.proofs.Laws.Framed.{child-chain}
use Rattle.volume.proofs.Laws.Places.{path-levels, directory-at-path}
use Rattle.volume.proofs.Walks.Delete.{droppable}

module _ (s path : List ℕ) where
  pub delete-directory-given : delete_directory_refusal s path ≡ 0 → directory_refusal s path ≡ 0
  unfolding delete_directory_refusal
  delete-directory-given r = (first_of-zero (directory_refusal s path) _ r).0

  pub delete-directory-refused : (directory_refusal s path ≡ 0 → ⊥) → directory_refusal s path ≡ delete_directory_refusal s path
  unfolding delete_directory_refusal
  delete-directory-refused ne = sym (first_of-refused (directory_refusal s path) (require (is_empty s (first_block s (entry_of is_directory s path))) 18 0) ne)

  module _ (z : directory_refusal s path ≡ 0) where
    -- it is one of the tree
    child-in : check s ≡ 0 → (j : ℕ) × In (first_block s (entry_of is_directory s path), j) (dirs s)
    unfolding directory_refusal entry_of
    child-in ok =
        let a = require-zero (path_ok path) 8 _ z in
        let b = require-zero (shallow (parts path)) 16 _ a.1 in
        let f = require-zero (not (eqb (path_slot is_directory s path) 0)) 9 _ b.1 in
        let ne = eqb-false _ _ (not-true _ f.0) in
        let N = path-named is_directory s path ne in
        let l = path-levels path a.0 b.0 in
        let i : In (home s path, suc (max_levels - suc (length (leading (parts path))))) (dirs s) = rw l.1 (path-home is_directory s path ne l.0) in (
          max_levels - suc (length (leading (parts path))),
          gone-in s s (sound s ok) (home s path) (max_levels - suc (length (leading (parts path)))) i (path_slot is_directory s path) N.low N.high N.typed,
        )

    child-right : check s ≡ 0 → Chain (next s) (block_count s) (first_block s (entry_of is_directory s path)) (blocks_of s (entry_of is_directory s path))
    child-right ok = child-chain s (sound s ok) path (directory-at-path s path z)

    child-chained : check s ≡ 0 → chain_ok (next s) (block_count s) (first_block s (entry_of is_directory s path)) (blocks_of s (entry_of is_directory s path)) ≡ true
    child-chained ok = chain_ok-join (next s) (block_count s) _ _ (child-right ok)

    -- it has no attributes
    child-attributes : check s ≡ 0 → (attribute_size_of s (entry_of is_directory s path) ≡ 0) × (attribute_blocks s (entry_of is_directory s path) ≡ [])
    unfolding entry_of
    child-attributes ok =
        let A = directory-at-path s path z in
        let e : ℕ = slot_at (directory s (home s path)) (path_slot is_directory s path) in
        let N = A.named in
        directory-attributes s e (directory-slot-ok s e N.typed (slot-ok s (sound s ok) (home s path, A.level) A.home-in (path_slot is_directory s path) N.low N.high))

    child-all : check s ≡ 0 → all_blocks s (entry_of is_directory s path) ≡ chain (next s) (first_block s (entry_of is_directory s path)) (blocks_of s (entry_of is_directory s path))
    unfolding all_blocks file_blocks
    child-all ok = rw (child-attributes ok).1 (append-nil _)

    module _ {slot b first size blocks : ℕ} (l : Located is_directory s path slot b first size blocks) where
      pub child-at : check s ≡ 0 → DirectoryAt s (block_count s) first (blocks_of s (512 * first))
      child-at ok = let i = child-in ok in rw l.start (sound-directory s ok (first_block s (entry_of is_directory s path), i.0) i.1)

      pub child-droppable : check s ≡ 0 → Droppable s b slot first blocks
      unfolding chain_ok
      child-droppable ok = droppable l ok (child-chained ok) (rw (child-attributes ok).0) (rw (child-all ok) (chain-distinct (next s) (block_count s) _ _ (child-right ok) (sound s ok).least))

      pub child-used : false ≡ is_empty s first → 18 ≡ delete_directory_refusal s path
      unfolding delete_directory_refusal
      child-used h = rw (z, ← l.start, ← h)

      pub child-empty : true ≡ is_empty s first → 0 ≡ delete_directory_refusal s path
      unfolding delete_directory_refusal
      child-empty h = rw (z, ← l.start, ← h)
