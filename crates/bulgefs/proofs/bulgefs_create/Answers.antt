use mathlib.Core.Path.{◌∙◌}
use Rattle.bulgefs.proofs.bulgefs_create.Goals as goal

pub returns : goal.returns
returns c = let create = c.create in record { answer = c.with_slot.ensures ∙ create.ensures.answer; state = create.ensures.state }
