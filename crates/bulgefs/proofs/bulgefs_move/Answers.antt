use mathlib.Core.Path.{◌∙◌}
use Rattle.bulgefs.proofs.bulgefs_move.Goals as goal

pub returns : goal.returns
returns c = let move-file = c.move_file in record { answer = c.with_slot.ensures ∙ move-file.ensures.answer; state = move-file.ensures.state }
