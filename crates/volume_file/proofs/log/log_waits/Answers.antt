use mathlib.Core.Path.{refl}
use Rattle.volume_file.specs.Format.{waits}
use Rattle.volume_file.proofs.log.log_waits.Goals as goal

pub returns : goal.returns
unfolding waits
returns c = refl
