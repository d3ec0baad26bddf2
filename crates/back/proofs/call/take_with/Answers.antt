use mathlib.Core.Path.{refl}
use native.Mathlib.Omega.{arith}
use Rattle.journal.specs.Journal.{used as usedLength}
use Rattle.back.proofs.Laws.Turns.{right-ready, right-head, go-start, go_right, go-record, go-lower, go-next, go-end}
use Rattle.back.proofs.call.take_with.Goals as goal

pub get32-used-requires : goal.get32-used-requires
get32-used-requires c =
    let w = right-head _ (right-ready c.requires.0) in
    omega (arith, w.long)

pub loop-used-init : goal.loop-used-init
unfolding usedLength
loop-used-init c =
    let p = c.requires in
    (go-start _ _ _ p.0 p.1 c.get32-used.ensures, refl, refl, refl, p.2)

pub note-count-requires : goal.note-count-requires
note-count-requires c =
    let l = c.loop-used in
    (go_right _ _ _ _ _ l.invariant.0, go-record _ _ _ _ _ l.invariant.0 c.loop-used-test.true, omega (arith, l.invariant.3, l.invariant.4))

pub take_noted-requires : goal.take_noted-requires
take_noted-requires c =
    let l = c.loop-used in
    (l.invariant.0.good, c.note-count.ensures.noted)

pub get32-used-requires-in-loop-used : goal.get32-used-requires-in-loop-used
get32-used-requires-in-loop-used c =
    let l = c.loop-used in
    let w = right-head _ (go_right _ _ _ _ _ l.invariant.0) in
    omega (arith, w.long)

pub overflow_cast-done : goal.overflow_cast-done
unfolding usedLength
overflow_cast-done c =
    let l = c.loop-used in
    let a = go-lower _ _ _ _ _ l.invariant.0 _ c.note-count.ensures.count.1 _ c.take_noted.ensures _ c.get32-used-in-loop-used.ensures in
    omega (arith, a, l.invariant.0.few)

pub overflow_add-done : goal.overflow_add-done
unfolding usedLength
overflow_add-done c =
    let l = c.loop-used in
    let a = go-lower _ _ _ _ _ l.invariant.0 _ c.note-count.ensures.count.1 _ c.take_noted.ensures _ c.get32-used-in-loop-used.ensures in
    omega (arith, a, l.invariant.0.few)

pub loop-used-smaller : goal.loop-used-smaller
unfolding usedLength
loop-used-smaller c =
    let l = c.loop-used in
    let a = go-lower _ _ _ _ _ l.invariant.0 _ c.note-count.ensures.count.1 _ c.take_noted.ensures _ c.get32-used-in-loop-used.ensures in
    omega (arith, a, c.note-count.ensures.count.0)

pub loop-used-preserved : goal.loop-used-preserved
unfolding usedLength
loop-used-preserved c =
    let l = c.loop-used in (
      go-next _ _ _ _ _ l.invariant.0 _ c.note-count.ensures.count.1 _ c.take_noted.ensures _ c.get32-used-in-loop-used.ensures (omega arith),
      omega arith,
      omega arith,
      omega (arith, l.invariant.3),
      l.invariant.4,
    )

pub shape_of-image : goal.shape_of-image
shape_of-image c = c.loop-used.invariant.1

pub shape_of-journal : goal.shape_of-journal
shape_of-journal c = c.loop-used.invariant.2

pub shape_of-offsets : goal.shape_of-offsets
shape_of-offsets c = c.loop-used.invariant.3

pub returns : goal.returns
returns c = go-end _ _ _ _ _ c.loop-used.invariant.0 (omega arith)
