use mathlib.Core.Path.{refl, sym}
use native.Mathlib.Omega.{arith}
use lib.ListN.{get_or-eq_default}
use Rattle.plain_check.proofs.check.byte.Goals as goal

pub returns-then-image-at : goal.returns-then-image-at
returns-then-image-at c = (sym (get_or-eq_default c.args.image.now 0 (omega arith)), omega arith)

pub returns-else-image-at : goal.returns-else-image-at
returns-else-image-at c = (refl, omega (arith, c.type_inv.image c.args.at))
