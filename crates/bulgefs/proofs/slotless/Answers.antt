use Rattle.std.proofs.Common.{◌≡◌, sym}
use Rattle.bulgefs.proofs.Bounds.{change-case, no_slot}
use Rattle.bulgefs.proofs.slotless.Goals as goal

pub returns-in-Ok : goal.returns-in-Ok
returns-in-Ok c = λ p x z h. no_slot p x z _ _ (change-case _ c.in-Ok.is h)

pub returns-in-Err : goal.returns-in-Err
returns-in-Err c = λ p x z h. rw c.number.ensures (change-case _ c.in-Err.is h)
