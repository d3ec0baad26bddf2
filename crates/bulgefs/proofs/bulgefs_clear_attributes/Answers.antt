use mathlib.Core.Path.{refl}
use Rattle.volume.specs.Change as volume
use Rattle.store.specs.Change.{slot_given}
use Rattle.bulgefs.proofs.bulgefs_clear_attributes.Goals as goal

pub returns : goal.returns
unfolding slot_given volume.slot_given
returns c = let clear-attributes = c.clear_attributes in record { answer = c.slotless.ensures _ _ refl clear-attributes.ensures.answer; state = clear-attributes.ensures.state }
