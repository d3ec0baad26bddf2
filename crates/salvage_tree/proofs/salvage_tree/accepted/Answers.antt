use Rattle.std.proofs.Common.{arith}
use Rattle.salvage_tree.proofs.salvage_tree.accepted.Goals as goal

pub answer_in-requires : goal.answer_in-requires
answer_in-requires c = (omega arith, c.requires.0, omega (arith, c.requires.0), c.requires.1)

pub answer_in-requires-2 : goal.answer_in-requires-2
answer_in-requires-2 c = (omega arith, c.requires.0, omega (arith, c.requires.0), c.requires.1)
