use mathlib.Core.Path.{◌∙◌}
use Rattle.bulgefs.proofs.bulgefs_create_directory.Goals as goal

pub returns : goal.returns
returns c = let call = c.create_directory in record { answer = c.with_slot.ensures ∙ call.ensures.answer; state = call.ensures.state }
