use mathlib.Core.Path.{sym}
use native.Mathlib.Omega.{arith}
use Rattle.journal.specs.Journal.{used as usedLength}
use Rattle.back.proofs.Laws.Turns.{right-head, ahead-size, search-start, search-met, search-next, search-end}
use Rattle.back.proofs.walk.had_mark.Goals as goal

pub get32-used-requires : goal.get32-used-requires
get32-used-requires c = let w = right-head _ c.requires in omega (arith, w.long)

pub loop-at-init : goal.loop-at-init
unfolding usedLength
loop-at-init c = (search-start _ _ c.requires, c.get32-used.ensures)

pub returns-then-mark-at : goal.returns-then-mark-at
returns-then-mark-at c =
    let l = c.loop-at in
    sym (search-met _ _ _ l.invariant.0 (omega (arith, l.invariant.1)) c.if-mark-at.true)

pub get32-requires : goal.get32-requires
get32-requires c =
    let l = c.loop-at in
    let a = ahead-size _ l.invariant.0.ahead (omega (arith, l.invariant.1)) in
    omega (arith, a.0, a.1, l.invariant.0.ahead.whole.used_high)

pub overflow_add-at : goal.overflow_add-at
overflow_add-at c =
    let l = c.loop-at in
    let a = ahead-size _ l.invariant.0.ahead (omega (arith, l.invariant.1)) in
    omega (arith, a.1, l.invariant.0.ahead.whole.used_high, l.invariant.0.ahead.whole.short, c.get32.ensures)

pub loop-at-smaller : goal.loop-at-smaller
loop-at-smaller c =
    let l = c.loop-at in
    let a = ahead-size _ l.invariant.0.ahead (omega (arith, l.invariant.1)) in
    omega (arith, a.0, a.1, l.invariant.1, c.get32.ensures)

pub loop-at-preserved : goal.loop-at-preserved
loop-at-preserved c =
    let l = c.loop-at in
    (search-next _ _ _ l.invariant.0 (omega (arith, l.invariant.1)) c.if-mark-at.false _ c.get32.ensures, l.invariant.1)

pub returns : goal.returns
returns c =
    let l = c.loop-at in
    rw l.invariant.1 (sym (search-end _ _ _ l.invariant.0 (omega (arith, l.invariant.1))))
