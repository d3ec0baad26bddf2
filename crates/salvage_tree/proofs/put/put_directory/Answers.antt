use native.Mathlib.Omega.{arith}
use Prim.Native.Nat.{◌-◌}
use lib.ListN.{length}
use Rattle.salvage_tree.proofs.Walks.Puts.{put-done}
use Rattle.salvage_tree.proofs.put.put_directory.Goals as goal

pub bounds-blocks-0 : goal.bounds-blocks-0
bounds-blocks-0 c = omega (arith, c.requires.1.some)

pub overflow_sub-last : goal.overflow_sub-last
overflow_sub-last c = omega (arith, c.requires.1.some)

pub offset_bounds-blocks-blocks : goal.offset_bounds-blocks-blocks
offset_bounds-blocks-blocks c = omega (arith, c.requires.1.few)

pub bounds-blocks-blocks : goal.bounds-blocks-blocks
bounds-blocks-blocks c = omega (arith, c.requires.1.some)

pub put_head-head-requires : goal.put_head-head-requires
put_head-head-requires c = (c.requires.0.room.shape, c.requires.1, c.requires.2, c.requires.3)

pub note-requires : goal.note-requires
note-requires c = let g = c.requires.1.below 0 c.requires.1.some in (omega (arith, g, c.requires.0.sized), omega arith)

pub put_end-end-requires : goal.put_end-end-requires
put_end-end-requires c = let g = c.requires.1.below (length c.args.blocks.now - 1) (omega (arith, c.requires.1.some)) in omega (arith, g, c.requires.0.room.shape)

pub note-requires-2 : goal.note-requires-2
note-requires-2 c = let g = c.requires.1.below (length c.args.blocks.now - 1) (omega (arith, c.requires.1.some)) in (omega (arith, g, c.requires.0.sized), omega arith)

pub claim_blocks-requires : goal.claim_blocks-requires
claim_blocks-requires c = ((λ i h. let g = c.requires.1.below i h in omega (arith, g, c.requires.0.room)), c.requires.1.few)

pub returns : goal.returns
returns c = put-done _ _ _ _ _ _ c.requires.1.some _ _ _ _ _ _ _ c.put_head-head.ensures.bytes c.put_head-head.ensures.right c.note.ensures c.put_end-end.ensures.bytes c.put_end-end.ensures.right c.note-2.ensures c.claim_blocks.ensures
