use Rattle.std.proofs.Common.{arith}
use Rattle.salvage_tree.proofs.Walks.Rest.{noted-free, noted-freed}
use Rattle.salvage_tree.proofs.rest.note_block.Goals as goal

pub returns-then-is_free : goal.returns-then-is_free
returns-then-is_free c = noted-free _ _ _ _ _ c.is_free.ensures c.if-is_free.true

pub returns : goal.returns
returns c = noted-freed _ _ _ _ _ c.is_free.ensures c.if-is_free.false (omega (arith, c.requires))
