use mathlib.Core.Path.{refl}
use Rattle.volume.specs.Walks.Marks.{marked}
use Rattle.volume.proofs.marks.mark.Goals as goal

pub returns : goal.returns
unfolding marked
returns c = refl
