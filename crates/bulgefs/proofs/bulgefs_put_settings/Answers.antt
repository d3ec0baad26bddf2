use mathlib.Core.Path.{◌∙◌}
use Rattle.bulgefs.proofs.bulgefs_put_settings.Goals as goal

pub returns : goal.returns
returns c = let put = c.put_settings in record { answer = c.with_slot.ensures ∙ put.ensures.answer; state = put.ensures.state }
