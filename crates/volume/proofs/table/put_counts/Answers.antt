use mathlib.Core.Path.{◌∙◌}
use native.Mathlib.Omega.{arith}
use Rattle.volume.proofs.Walks.Lent.{two-words}
use Rattle.volume.proofs.table.put_counts.Goals as goal

pub returns : goal.returns
returns c = c.put32-2.ensures ∙ rw c.put32.ensures (two-words _ _ _ _ (omega arith))
