use native.Mathlib.Omega.{arith}
use Rattle.salvage_tree.proofs.Walks.Numbers.{one_set}
use Rattle.salvage_tree.proofs.numbers.set_byte.Goals as goal

pub returns : goal.returns
returns c = one_set _ _ _ (omega (arith, c.requires))
