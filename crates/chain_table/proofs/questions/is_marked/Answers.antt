use mathlib.Core.Path.{sym, ap, ◌∙◌}
use mathlib.Core.Bool.{not}
use Prim.Native.Nat.{ℕ}
use borrow.Author.Tests.{le-ltb}
use lib.Dec.{eqb}
use lib.ListN.{get_or-eq_default}
use Rattle.chain_table.proofs.questions.is_marked.Goals as goal

pub returns-else-b-marks : goal.returns-else-b-marks
returns-else-b-marks c = le-ltb _ _ c.if-b-marks.false ∙ sym (ap (λ (x : ℕ). not (eqb x 0)) (get_or-eq_default c.args.marks.now 0 c.if-b-marks.false))
