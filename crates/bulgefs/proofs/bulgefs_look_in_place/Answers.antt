use native.Mathlib.Omega.{arith}
use Rattle.layout.proofs.Laws.Looks.{extent-small}
use Rattle.bulgefs.proofs.bulgefs_look_in_place.Goals as goal

pub overflow_cast-result : goal.overflow_cast-result
overflow_cast-result c =
    let a = c.args in
    omega (arith, extent-small a.image.now a.path.now a.index)

pub overflow_cast-result-2 : goal.overflow_cast-result-2
overflow_cast-result-2 c =
    let a = c.args in
    omega (arith, extent-small a.image.now a.path.now a.index)

pub returns : goal.returns
returns c =
    let e = c.extent_in_place-x.ensures in
    rw (e.0, e.1)
