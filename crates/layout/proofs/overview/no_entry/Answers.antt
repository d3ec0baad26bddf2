use mathlib.Core.Path.{refl}
use Rattle.layout.specs.Looks.{no_entry}
use Rattle.layout.proofs.overview.no_entry.Goals as goal

pub returns : goal.returns
unfolding no_entry
returns c = refl
