use mathlib.Core.Path.{refl}
use native.Mathlib.Omega.{arith}
use Rattle.back.proofs.Laws.Turns.{take-start, take_last, take_next, take-end}
use Rattle.back.proofs.call.take_noted.Goals as goal

pub loop-left-init : goal.loop-left-init
loop-left-init c =
    let p = c.requires in
    (take-start _ _ _ p.0 p.1, refl, refl)

pub offset_bounds-offsets-left : goal.offset_bounds-offsets-left
offset_bounds-offsets-left c = omega (arith, c.loop-left.invariant.0.noted.fits)

pub bounds-offsets-left : goal.bounds-offsets-left
bounds-offsets-left c = omega (arith, c.loop-left.invariant.0.noted.fits)

pub take_back-requires : goal.take_back-requires
take_back-requires c =
    take_last _ _ _ _ _ c.loop-left.invariant.0 c.loop-left-test.true _ refl

pub loop-left-preserved : goal.loop-left-preserved
loop-left-preserved c =
    let k = c.take_back in
    let l = c.loop-left in
    (take_next _ _ _ _ _ l.invariant.0 c.loop-left-test.true _ _ (omega arith) k.ensures.image k.ensures.journal, omega arith, omega arith)

pub shape_of-image : goal.shape_of-image
shape_of-image c = c.loop-left.invariant.1

pub shape_of-journal : goal.shape_of-journal
shape_of-journal c = c.loop-left.invariant.2

pub returns : goal.returns
returns c = take-end _ _ _ _ _ c.loop-left.invariant.0 (omega arith)
