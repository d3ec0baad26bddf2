use Rattle.layout.specs.Bytes.{zeros}
use mathlib.Core.Path.{refl}
use Rattle.store.proofs.form.empty_room.Goals as goal

pub returns : goal.returns
unfolding zeros
returns c = refl
