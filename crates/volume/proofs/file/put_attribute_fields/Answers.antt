use mathlib.Core.Path.{◌∙◌}
use native.Mathlib.Omega.{arith}
use Rattle.volume.proofs.Walks.Lent.{field-words}
use Rattle.volume.proofs.file.put_attribute_fields.Goals as goal

pub returns : goal.returns
returns c = c.put32-2.ensures ∙ rw c.put32.ensures (field-words _ _ _ _ (omega arith))
