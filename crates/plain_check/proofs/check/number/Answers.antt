use native.Mathlib.Omega.{arith}
use Rattle.layout.specs.Bytes.{be32}
use Rattle.plain_check.proofs.check.number.Goals as goal

-- src/check.rt:30:1
pub returns : goal.returns
unfolding be32
returns c = (omega arith, omega arith)
