use Rattle.std.proofs.Common.{arith}
use Rattle.salvage_tree.proofs.Walks.Counts.{was-bit}
use Rattle.salvage_tree.proofs.salvage_tree.was_used.Goals as goal

pub returns : goal.returns
returns c = was-bit _ _ (omega arith)
