use Rattle.std.proofs.Common.{arith}
use Rattle.salvage_tree.proofs.Walks.Rest.{noting-start, noting-more, noting-end}
use Rattle.salvage_tree.proofs.rest.note_freed.Goals as goal

pub loop-b-init : goal.loop-b-init
loop-b-init c = noting-start _ _ _ _ _

pub loop-b-preserved : goal.loop-b-preserved
loop-b-preserved c = noting-more c.loop-b.invariant (omega arith) _ (omega arith) c.note_block.ensures

pub returns : goal.returns
returns c = noting-end c.loop-b.invariant (omega arith)
