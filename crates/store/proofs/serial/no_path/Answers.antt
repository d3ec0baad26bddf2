use mathlib.Core.Path.{refl}
use Rattle.layout.specs.Bytes.{zeros}
use Rattle.store.proofs.serial.no_path.Goals as goal

pub returns : goal.returns
unfolding zeros
returns c = refl
