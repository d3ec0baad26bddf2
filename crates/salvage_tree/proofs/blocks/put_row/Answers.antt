use Rattle.std.proofs.Common.{◌+◌, refl, ◌∙◌, length-set, arith}
use Rattle.salvage_tree.proofs.Walks.Blocks.{row_written, row-whole}
use Rattle.salvage_tree.proofs.blocks.put_row.Goals as goal

pub loop-k-init : goal.loop-k-init
loop-k-init c = (refl, c.requires.1)

pub loop-k-preserved : goal.loop-k-preserved
loop-k-preserved c =
    (row_written c.loop-k.blocks c.args.b c.loop-k.k (omega (arith, c.requires, c.loop-k.invariant.1)) c.loop-k.invariant.0, length-set c.loop-k.blocks c.loop-k.k (c.args.b + c.loop-k.k) ∙ c.loop-k.invariant.1)

pub returns : goal.returns
returns c = row-whole _ _ _ _ c.loop-k.invariant.0 (omega arith) (omega arith)
