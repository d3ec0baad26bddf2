use native.Mathlib.Omega.{arith}
use Rattle.salvage_tree.proofs.Walks.Numbers.{code-right, code-wrong}
use Rattle.salvage_tree.proofs.numbers.note.Goals as goal

pub returns-then-right : goal.returns-then-right
returns-then-right c = code-right _ _ _ c.if-right.true

pub returns : goal.returns
returns c = code-wrong _ _ _ _ c.if-right.false (omega (arith, c.requires)) (omega (arith, c.requires))
