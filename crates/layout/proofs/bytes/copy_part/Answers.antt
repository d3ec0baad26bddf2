use Rattle.std.proofs.Common.{◌+◌, ◌-◌, ◌≡◌, ◌∙◌, arith}
use Rattle.layout.specs.Bytes.{part}
use Rattle.layout.proofs.Laws.Bytes.{lent, length_part}
use Rattle.layout.proofs.bytes.copy_part.Goals as goal

pub returns : goal.returns
returns c =
    let a = c.args in
    let e : a.from + a.count - a.from ≡ a.count = omega arith in
    lent _ a.at (a.at + a.count - a.at) _ (part a.src.now a.from a.count) (c.copy.ensures ∙ rw e)
    (length_part a.src.now a.from a.count (omega arith) ∙ omega arith)
