use native.Mathlib.Omega.{arith}
use Rattle.salvage_tree.proofs.Walks.Numbers.{code-none, code_put, slot-index}
use Rattle.salvage_tree.proofs.numbers.put_code.Goals as goal

pub returns-then-code-eq0 : goal.returns-then-code-eq0
returns-then-code-eq0 c = code-none _ _ _ c.if-code-eq0.true

pub returns : goal.returns
returns c = code_put _ _ _ _ c.if-code-eq0.false (slot-index _ _) (omega (arith, c.requires))
