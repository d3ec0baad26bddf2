use Rattle.std.proofs.Common.{refl, arith}
use Rattle.layout.specs.Bytes.{zeros}
use Rattle.layout.proofs.Laws.Bytes.{zeros-own}
use Rattle.salvage.proofs.salvage.marked_body.Goals as goal

pub body-requires : goal.body-requires
unfolding zeros
body-requires g c =
    let p = c.requires in
    let f = zeros-own _ g.row.MARKS refl in
    (p.0, p.1, omega (arith, f.0, p.2), f.1)
