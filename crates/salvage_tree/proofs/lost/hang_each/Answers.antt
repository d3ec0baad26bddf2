use Rattle.std.proofs.Common.{arith}
use Rattle.salvage_tree.proofs.Walks.Lost.{hanging-start, hanging-more, hanging-end, hanging-root}
use Rattle.salvage_tree.proofs.Walks.Levels.{ready-again}
use Rattle.salvage_tree.proofs.lost.hang_each.Goals as goal

pub loop-b-init : goal.loop-b-init
loop-b-init c = hanging-start _ _ _ _ _ c.requires.0

pub hang-requires : goal.hang-requires
hang-requires c =
    let w = c.loop-b.invariant in
    let R = ready-again _ _ _ _ _ _ _ _ c.requires.0 w.long w.marked w.coded-all in
    (R, omega (arith, w.low), omega arith, hanging-root w R.room.shape c.requires.1)

pub loop-b-preserved : goal.loop-b-preserved
loop-b-preserved c = hanging-more c.loop-b.invariant c.requires.0.room.table _ (omega arith) _ _ _ (omega arith) (omega arith) (omega arith) c.hang.ensures

pub returns : goal.returns
returns c = hanging-end c.loop-b.invariant (omega arith)
