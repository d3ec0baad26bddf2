use Rattle.std.proofs.Common.{◌+◌, ◌-◌, ◌≡◌, arith}
use Rattle.layout.specs.Looks.{look_in_place}
use Rattle.layout.proofs.reading.look_in_place.Goals as goal

pub returns-clause-bytes : goal.returns-clause-bytes
unfolding look_in_place
returns-clause-bytes c =
    let extent = c.extent_in_place-part in
    let x = extent.result in
    let e : (x.start + x.size) - x.start ≡ x.size = omega arith in
    rw (e, ← extent.ensures.0, ← extent.ensures.1)
