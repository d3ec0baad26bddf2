use Rattle.std.proofs.Common.{◌+◌, ◌-◌, arith}
use Rattle.layout.proofs.Laws.Bytes.{lent-zeros}
use Rattle.volume.proofs.data.clear_part.Goals as goal

pub returns : goal.returns
returns c =
    let a = c.args in
    lent-zeros a.s.now a.at a.count (a.at + a.count - a.at) _ (c.fill.ensures.after (λ y h. h)) (omega arith) (omega arith)
