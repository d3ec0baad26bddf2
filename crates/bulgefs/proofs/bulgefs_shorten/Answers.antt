use mathlib.Core.Path.{refl}
use Rattle.volume.specs.Change as volume
use Rattle.store.specs.Change.{slot_given}
use Rattle.bulgefs.proofs.bulgefs_shorten.Goals as goal

pub returns : goal.returns
unfolding slot_given volume.slot_given
returns c = let shorten = c.shorten in record { answer = c.slotless.ensures _ _ refl shorten.ensures.answer; state = shorten.ensures.state }
