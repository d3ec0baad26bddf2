use native.Mathlib.Omega.{arith}
use Rattle.salvage_tree.proofs.Walks.Puts.{end-right, end-wrong, end_kept, end-stored}
use Rattle.salvage_tree.proofs.put.put_end.Goals as goal

pub returns-then-type_at : goal.returns-then-type_at
returns-then-type_at c = record { right = end-right c.args.image.now c.args.b _ c.type_at.ensures (omega (arith, c.requires)) c.if-type_at.true; bytes = end_kept _ _ _ c.type_at.ensures (omega (arith, c.requires)) c.if-type_at.true }

pub returns : goal.returns
returns c = record { right = end-wrong _ _ _ c.type_at.ensures (omega (arith, c.requires)) c.if-type_at.false _ c.end_block.ensures; bytes = end-stored _ _ _ c.type_at.ensures (omega (arith, c.requires)) c.if-type_at.false _ c.end_block.ensures }
