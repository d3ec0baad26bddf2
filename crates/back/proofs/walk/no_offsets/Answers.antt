use mathlib.Core.Path.{refl}
use Rattle.layout.specs.Bytes.{zeros}
use Rattle.back.proofs.walk.no_offsets.Goals as goal

pub returns : goal.returns
unfolding zeros
returns c = refl
