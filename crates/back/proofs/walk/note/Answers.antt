use mathlib.Core.Path.{refl}
use native.Mathlib.Omega.{arith}
use lib.ListN.{length-set}
use Rattle.journal.specs.Journal.{used as usedLength}
use Rattle.back.proofs.Laws.Turns.{right-head, ahead-size, note-start, note-again, note-more, note-end, note-count}
use Rattle.back.proofs.walk.note.Goals as goal

pub get32-used-requires : goal.get32-used-requires
get32-used-requires c = let w = right-head _ c.requires.0 in omega (arith, w.long)

pub loop-at-init : goal.loop-at-init
unfolding usedLength
loop-at-init c =
    let p = c.requires in
    (note-start _ _ _ p.0 p.1, c.get32-used.ensures, refl, p.2)

pub loop-at-smaller-then-i-offsets : goal.loop-at-smaller-then-i-offsets
loop-at-smaller-then-i-offsets c =
    let l = c.loop-at in
    omega (arith, l.invariant.2, l.invariant.3, c.if-i-offsets.true)

pub loop-at-preserved-then-i-offsets : goal.loop-at-preserved-then-i-offsets
loop-at-preserved-then-i-offsets c =
    let l = c.loop-at in
    (note-again _ _ _ _ _ l.invariant.0 (omega (arith, l.invariant.1)), l.invariant.1, l.invariant.2, l.invariant.3)

pub overflow_cast-offsets : goal.overflow_cast-offsets
overflow_cast-offsets c =
    let l = c.loop-at in
    let w = l.invariant.0.ahead.whole in
    omega (arith, l.invariant.1, w.used_high, w.short)

pub offset_bounds-offsets-i : goal.offset_bounds-offsets-i
offset_bounds-offsets-i c =
    let l = c.loop-at in
    omega (arith, l.invariant.0.fits)

pub bounds-offsets-i : goal.bounds-offsets-i
bounds-offsets-i c =
    let l = c.loop-at in
    omega (arith, l.invariant.0.fits, c.if-i-offsets.false)

pub overflow_add-i : goal.overflow_add-i
overflow_add-i c =
    let l = c.loop-at in
    omega (arith, l.invariant.0.fits)

pub get32-requires : goal.get32-requires
get32-requires c =
    let l = c.loop-at in
    let a = ahead-size _ l.invariant.0.ahead (omega (arith, l.invariant.1)) in
    omega (arith, a.0, a.1, l.invariant.0.ahead.whole.used_high)

pub overflow_add-at : goal.overflow_add-at
overflow_add-at c =
    let l = c.loop-at in
    let a = ahead-size _ l.invariant.0.ahead (omega (arith, l.invariant.1)) in
    omega (arith, a.1, l.invariant.0.ahead.whole.used_high, l.invariant.0.ahead.whole.short, c.get32.ensures)

pub loop-at-smaller : goal.loop-at-smaller
loop-at-smaller c =
    let l = c.loop-at in
    let a = ahead-size _ l.invariant.0.ahead (omega (arith, l.invariant.1)) in
    omega (arith, a.0, a.1, l.invariant.1, c.get32.ensures)

pub loop-at-preserved : goal.loop-at-preserved
loop-at-preserved c =
    let l = c.loop-at in (
      note-more _ _ _ _ _ l.invariant.0 (omega (arith, l.invariant.1)) (omega (arith, l.invariant.0.fits, c.if-i-offsets.false)) _ c.get32.ensures,
      l.invariant.1,
      simp length-set l.invariant.2,
      l.invariant.3,
    )

pub shape_of-offsets : goal.shape_of-offsets
shape_of-offsets c = c.loop-at.invariant.2

pub returns : goal.returns
returns c = let l = c.loop-at in record { noted = note-end _ _ _ _ _ l.invariant.0 (omega (arith, l.invariant.1)); count = note-count _ _ _ _ _ l.invariant.0 (omega (arith, l.invariant.1)) }
