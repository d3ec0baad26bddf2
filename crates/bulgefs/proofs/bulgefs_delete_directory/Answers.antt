use mathlib.Core.Path.{refl}
use Rattle.volume.specs.Change as volume
use Rattle.store.specs.Change.{slot_given}
use Rattle.bulgefs.proofs.bulgefs_delete_directory.Goals as goal

pub returns : goal.returns
unfolding slot_given volume.slot_given
returns c = let call = c.delete_directory in record { answer = c.slotless.ensures _ _ refl call.ensures.answer; state = call.ensures.state }
