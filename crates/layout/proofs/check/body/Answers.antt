use Rattle.std.proofs.Common.{replicate, refl, arith}
use Rattle.layout.specs.Bytes.{zeros}
use Rattle.layout.proofs.Laws.Bytes.{zeros-own}
use Rattle.layout.proofs.check.body.Goals as goal

pub marked_body-requires : goal.marked_body-requires
unfolding zeros
marked_body-requires g c =
    let p = c.requires in
    let f = zeros-own (replicate g.row.N 0) g.row.N refl in
    (p.0, omega (arith, f.0, p.1), f.1, omega (arith, f.0, p.1), f.1)
