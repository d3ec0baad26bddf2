use native.Mathlib.Omega.{arith}
use Rattle.salvage_tree.proofs.Walks.Rest.{padding-put}
use Rattle.salvage_tree.proofs.rest.put_padding.Goals as goal

pub all_free-right-requires : goal.all_free-right-requires
all_free-right-requires c = (c.requires.shape, omega (arith, c.requires), omega (arith, c.requires))

pub free_entries-requires : goal.free_entries-requires
free_entries-requires c = (c.requires.shape, omega (arith, c.requires), omega (arith, c.requires))

pub returns : goal.returns
returns c = padding-put _ _ c.args.image.now _ _ c.requires.shape c.requires.table _ c.all_free-right.ensures _ c.free_entries.ensures
