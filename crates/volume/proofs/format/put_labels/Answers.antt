use Rattle.std.proofs.Common.{◌≡◌, ℕ, List, length, ap, ◌∙◌, arith}
use Rattle.layout.specs.Bytes.{splice}
use Rattle.layout.proofs.Laws.Bytes.{lent}
use Rattle.volume.proofs.Walks.Format.{labels-written}
use Rattle.volume.proofs.format.put_labels.Goals as goal

pub returns : goal.returns
returns c =
    let a = c.args in
    let u : length a.uuid ≡ 16 = omega arith in
    lent _ 128 128 _ a.name.now c.copy-2.ensures c.requires.1
    ∙ ap (λ (x : List ℕ). splice x 128 a.name.now) (lent a.block.now 112 16 _ a.uuid c.copy.ensures u)
    ∙ labels-written a.block.now a.uuid a.name.now u c.requires.1 c.requires.0
