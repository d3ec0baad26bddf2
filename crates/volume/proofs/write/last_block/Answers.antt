use mathlib.Core.Path.{sym, ◌∙◌}
use native.Mathlib.Omega.{arith}
use Rattle.layout.proofs.Laws.Chains.{last_none, last_some}
use Rattle.volume.proofs.write.last_block.Goals as goal

pub returns-then-blocks-eq0 : goal.returns-then-blocks-eq0
returns-then-blocks-eq0 c = sym (last_none _ _ _ c.if-blocks-eq0.true)

pub returns : goal.returns
returns c = c.nth.ensures ∙ sym (last_some _ _ _ (omega arith))
