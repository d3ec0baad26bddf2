use Rattle.std.proofs.Common.{◌≡◌, ◌+◌, ◌-◌, length, ap, ◌∙◌, arith}
use Rattle.layout.specs.Bytes.{splice}
use Rattle.layout.proofs.Laws.Bytes.{put_mid-splice}
use Rattle.salvage_tree.proofs.Walks.Numbers.{field-left, field-set}
use Rattle.salvage_tree.proofs.numbers.put_field.Goals as goal

pub returns-then-has_field : goal.returns-then-has_field
returns-then-has_field c = field-left _ _ _ _ c.has_field.ensures c.if-has_field.true

pub returns : goal.returns
returns c =
    let a = c.args in
    let q : a.at + 80 - a.at ≡ 80 = omega arith in
    let l : length c.copy.new.dst ≡ a.at + 80 - a.at = omega (arith, ap length c.copy.ensures, c.requires.1) in
    put_mid-splice a.image.now a.at _ _ l ∙ ap (splice a.image.now a.at) c.copy.ensures ∙ field-set _ _ _ _ c.has_field.ensures c.if-has_field.false
