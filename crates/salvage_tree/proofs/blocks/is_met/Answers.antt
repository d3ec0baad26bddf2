use Rattle.std.proofs.Common.{◌∙◌}
use Rattle.salvage_tree.proofs.Walks.Blocks.{any-has}
use Rattle.salvage_tree.proofs.blocks.is_met.Goals as goal

pub returns : goal.returns
returns c = c.contains.ensures.value ∙ any-has _ c.args.b
