use mathlib.Core.Path.{sym}
use lib.Seq.{set_out}
use native.Mathlib.Omega.{arith}
use Rattle.chain_table.proofs.changes.set.Goals as goal

pub returns-else-b-numbers : goal.returns-else-b-numbers
returns-else-b-numbers c = sym (set_out _ _ _ (omega arith))
