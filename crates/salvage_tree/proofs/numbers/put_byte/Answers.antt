use native.Mathlib.Omega.{arith}
use mathlib.Core.Path.{◌∙◌}
use Rattle.salvage_tree.proofs.Walks.Numbers.{byte_left, byte-set, one_set}
use Rattle.salvage_tree.proofs.numbers.put_byte.Goals as goal

pub returns-then-image-at : goal.returns-then-image-at
returns-then-image-at c = byte_left _ _ _ c.if-image-at.true

pub returns : goal.returns
returns c = one_set _ _ _ (omega (arith, c.requires)) ∙ byte-set _ _ _ c.if-image-at.false
