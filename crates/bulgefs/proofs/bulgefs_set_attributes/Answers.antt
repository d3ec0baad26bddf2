use mathlib.Core.Path.{refl}
use Rattle.volume.specs.Change as volume
use Rattle.store.specs.Change.{slot_given}
use Rattle.bulgefs.proofs.bulgefs_set_attributes.Goals as goal

pub returns : goal.returns
unfolding slot_given volume.slot_given
returns c = let set-attributes = c.set_attributes in record { answer = c.slotless.ensures _ _ refl set-attributes.ensures.answer; state = set-attributes.ensures.state }
