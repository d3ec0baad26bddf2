use Rattle.std.proofs.Common.{arith}
use Rattle.salvage_tree.proofs.Walks.Blocks.{claiming-start, claiming-more, claiming-end}
use Rattle.salvage_tree.proofs.blocks.claim_blocks.Goals as goal

pub loop-b-init : goal.loop-b-init
loop-b-init c = claiming-start _ _

pub bounds-marks-b : goal.bounds-marks-b
bounds-marks-b c = let g = c.requires.0 c.loop-b.b-index (omega arith) in omega (arith, g, c.loop-b.invariant.size)

pub loop-b-preserved : goal.loop-b-preserved
loop-b-preserved c = let g = c.requires.0 c.loop-b.b-index (omega arith) in claiming-more _ _ _ _ c.loop-b.invariant (omega arith) (omega (arith, g, c.loop-b.invariant.size))

pub returns : goal.returns
returns c = claiming-end _ _ _ _ c.loop-b.invariant (omega arith)
