use mathlib.Core.Path.{refl}
use Rattle.volume.specs.Change as volume
use Rattle.store.specs.Change.{slot_given}
use Rattle.bulgefs.proofs.bulgefs_clear_flags.Goals as goal

pub returns : goal.returns
unfolding slot_given volume.slot_given
returns c = let clear-flags = c.clear_flags in record { answer = c.slotless.ensures _ _ refl clear-flags.ensures.answer; state = clear-flags.ensures.state }
