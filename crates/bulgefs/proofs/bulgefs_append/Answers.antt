use mathlib.Core.Path.{◌∙◌}
use Rattle.append.proofs.Laws.Turns.{append-slotless}
use Rattle.bulgefs.proofs.bulgefs_append.Goals as goal

pub returns : goal.returns
returns c = let append = c.append in record { answer = append-slotless _ _ _ _ (c.with_slot-c.ensures ∙ append.ensures.answer); state = append.ensures.state }
