use Rattle.salvage_tree.proofs.Walks.Blocks.{ends-typed, ends-valued}
use Rattle.salvage_tree.proofs.blocks.ends_in.Goals as goal

pub returns-then-type_at : goal.returns-then-type_at
returns-then-type_at c = ends-typed _ _ _ c.type_at.ensures c.if-type_at.true

pub returns-else-type_at : goal.returns-else-type_at
returns-else-type_at c = ends-valued _ _ _ c.type_at.ensures c.if-type_at.false _ c.entry.ensures
