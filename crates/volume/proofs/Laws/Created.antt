-- A file just made: its entry's numbers are 0, and the free blocks are those of before.
use Prim.Native.Nat.{ℕ, ◌-◌, ◌*◌, ◌/◌, ◌<◌}
use mathlib.Core.Path.{◌≡◌, ap, ◌∙◌}
use mathlib.Core.List.{List, []}
use mathlib.Core.Logic.{inl}
use native.Mathlib.Omega.{arith}
use lib.ListN.{length}
use lib.Dec.{eqb}
use Rattle.layout.specs.Limits.{max_levels}
use Rattle.layout.specs.Bytes.{be32, bytes4, splice}
use Rattle.layout.specs.Geometry.{block_count, root_block}
use Rattle.layout.specs.Table.{next, chain, free_blocks}
use Rattle.layout.specs.Directory.{first_block, size_of, blocks_of, padded, slot_at, directory, free_slot, file_blocks}
use Rattle.layout.specs.Check.{check}
use Rattle.layout.specs.Paths.{parts, leading, last_part, home}
use Rattle.volume.specs.Entries.{entry_bytes}
use Rattle.volume.specs.Create.{create_refusal, create_image, place}
use Rattle.layout.proofs.Laws.Lists.{select-same}
use Rattle.layout.proofs.Laws.Bytes.{length-splice}
use Rattle.layout.proofs.Laws.Names.{padded-length}
use Rattle.layout.proofs.Laws.Frames.{same_beside, before-next}
use Rattle.layout.proofs.Laws.Sound.{Sound, Entry, sound}
use Rattle.layout.proofs.Laws.Slots.{slot-entry, entry-low, entry-high}
use Rattle.volume.proofs.Laws.Entries.{entry_length, entry_first, entry-size, entry-blocks}
use Rattle.volume.proofs.Laws.Places.{CreateGiven, create-given, path-name, place_is, place-home, place-free}

module _ (s path : List ℕ) (ok : check s ≡ 0) (type user group permissions flags time : ℕ) (r : create_refusal s path type flags ≡ 0) where
  G : CreateGiven s path type flags
  G = create-given s path type flags r

  S : Sound s
  S = sound s ok

  abbrev e : ℕ
  e = slot_at (directory s (home s path)) (free_slot s (directory s (home s path)))

  abbrev name : List ℕ
  name = last_part (parts path)

  abbrev t : List ℕ
  t = create_image s path type user group permissions flags time

  E : Entry s e
  E = let h = (place-free s path G.placed).1 in slot-entry s S (home s path, max_levels - length (leading (parts path))) (place-home s path G.placed G.short) (free_slot s (directory s (home s path))) (omega arith)

  eighty : length (padded name) ≡ 80
  eighty = padded-length name (path-name path G.good)

  long : length (entry_bytes type user group permissions 0 0 0 time flags name) ≡ 128
  long = entry_length name eighty type user group permissions 0 0 0 time flags

  made-is : t ≡ splice s e (entry_bytes type user group permissions 0 0 0 time flags name)
  unfolding create_image
  made-is = rw (place_is s path G.placed)

  pub created-length : length (create_image s path type user group permissions flags time) ≡ length s
  created-length = rw made-is (length-splice s e (entry_bytes type user group permissions 0 0 0 time flags name) (omega (arith, long, entry-high s S e E)))

  pub created-first : first_block (create_image s path type user group permissions flags time) (place s path) ≡ 0
  unfolding be32 bytes4
  created-first = rw (made-is, place_is s path G.placed) (entry_first name eighty type user group permissions 0 0 0 time flags s e (entry-high s S e E))

  pub created-size : size_of (create_image s path type user group permissions flags time) (place s path) ≡ 0
  unfolding be32 bytes4
  created-size = rw (made-is, place_is s path G.placed) (entry-size name eighty type user group permissions 0 0 0 time flags s e (entry-high s S e E))

  pub created-blocks : blocks_of (create_image s path type user group permissions flags time) (place s path) ≡ 0
  unfolding be32 bytes4
  created-blocks = rw (made-is, place_is s path G.placed) (entry-blocks name eighty type user group permissions 0 0 0 time flags s e (entry-high s S e E))

  -- it has no block
  pub created-none : file_blocks (create_image s path type user group permissions flags time) (place s path) ≡ []
  unfolding file_blocks chain
  created-none = rw created-blocks

  table_stays : (b : ℕ) → b < block_count s → next t b ≡ next s b
  table_stays b h =
      rw made-is (before-next s (splice s e (entry_bytes type user group permissions 0 0 0 time flags name)) (block_count s)
      (same_beside s e (entry_bytes type user group permissions 0 0 0 time flags name) (omega (arith, long, entry-high s S e E)) 0 (512 * root_block (block_count s)) (inl (omega (arith, entry-low s S e E))))
      b (omega arith))

  pub created-free : free_blocks (next (create_image s path type user group permissions flags time)) (block_count (create_image s path type user group permissions flags time)) ≡ free_blocks (next s) (block_count s)
  unfolding free_blocks
  created-free =
      ap (λ (l : ℕ). free_blocks (next t) (l / 512)) created-length
      ∙ select-same (λ b. eqb (next s b) 0) (λ b. eqb (next t b) 0) (block_count s) 0 (λ i h g. ap (λ (v : ℕ). eqb v 0) (table_stays i (omega arith)))
