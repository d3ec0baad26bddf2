use Rattle.std.proofs.Common.{arith}
use Rattle.salvage_tree.proofs.Walks.Blocks.{reading-start, reading-more, reading-end, reading-below}
use Rattle.salvage_tree.proofs.blocks.read_blocks.Goals as goal

pub loop-k-init : goal.loop-k-init
loop-k-init c = reading-start _ _ _ c.requires.1

pub offset_bounds-blocks-k : goal.offset_bounds-blocks-k
offset_bounds-blocks-k c = omega (arith, c.requires.0.blocks.few, c.loop-k.invariant.size)

pub bounds-blocks-k : goal.bounds-blocks-k
bounds-blocks-k c = omega (arith, c.requires.0.blocks.few, c.loop-k.invariant.size)

pub entry-b-requires : goal.entry-b-requires
entry-b-requires c = let g = reading-below _ _ _ _ _ _ _ c.loop-k.invariant c.requires.0 (omega arith) in omega (arith, g, c.requires.0.shape)

pub loop-k-preserved : goal.loop-k-preserved
loop-k-preserved c = reading-more _ _ _ _ _ c.loop-k.invariant (omega (arith, c.requires.0.blocks.few, c.loop-k.invariant.size)) _ c.entry-b.ensures

pub returns : goal.returns
returns c = reading-end _ _ _ _ _ _ c.loop-k.invariant (omega arith)
