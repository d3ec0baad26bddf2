use native.Mathlib.Omega.{arith}
use Rattle.salvage_tree.proofs.Walks.Rest.{blocks-put}
use Rattle.salvage_tree.proofs.rest.put_blocks.Goals as goal

pub note_freed-requires : goal.note_freed-requires
note_freed-requires c = let h = c.requires.room.shape in (record { whole = omega (arith, h); low = h.low; high = h.high }, omega (arith, h, c.requires.room.table), omega (arith, h, c.requires.room), c.requires.sized)

pub free_entries-requires : goal.free_entries-requires
free_entries-requires c = let h = c.requires.room.shape in (record { whole = omega (arith, h); low = h.low; high = h.high }, omega (arith, h, c.requires.room.table), omega (arith, h, c.requires.room))

pub returns : goal.returns
returns c = blocks-put _ _ _ _ _ c.requires.room.shape c.requires.room.table _ c.ones-right.ensures _ _ _ c.put_ones.ensures c.note_freed.ensures c.free_entries.ensures
