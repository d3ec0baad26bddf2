use Rattle.std.proofs.Common.{ℕ, ◌+◌, ◌-◌, ◌≡◌, ap, ◌∙◌, take, drop, arith}
use Rattle.layout.specs.Lists.{same}
use Rattle.salvage_tree.proofs.Walks.Numbers.{pointwise-same}
use Rattle.salvage_tree.proofs.numbers.has_field.Goals as goal

pub returns : goal.returns
returns c =
    let a = c.args in
    let q : a.at + 80 - a.at ≡ 80 = omega arith in
    c.eq.ensures ∙ pointwise-same (take (a.at + 80 - a.at) (drop a.at a.image.now)) a.field.now ∙ ap (λ (j : ℕ). same (take j (drop a.at a.image.now)) a.field.now) q
