use native.Mathlib.Omega.{arith}
use lib.ListN.{length-take}
use Rattle.layout.specs.Check.{stage2}
use Rattle.plain_check.proofs.check.signed.Goals as goal

-- src/check.rt:112:26
pub slice_bounds-equal-end : goal.slice_bounds-equal-end
slice_bounds-equal-end c = simp length-take (omega arith)

-- src/check.rt:108:1
pub returns : goal.returns
unfolding stage2
returns c = c.equal.ensures
