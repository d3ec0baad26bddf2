use native.Mathlib.Omega.{arith}
use Rattle.journal.specs.Journal.{used as usedLength}
use Rattle.back.proofs.Laws.Turns.{right-head, ahead-size, tally-start, tally-next, tally-count, tally-last}
use Rattle.back.proofs.walk.tally.Goals as goal

pub get32-used-requires : goal.get32-used-requires
get32-used-requires c = let w = right-head _ c.requires in omega (arith, w.long)

pub loop-at-init : goal.loop-at-init
unfolding usedLength
loop-at-init c = (tally-start _ c.requires, c.get32-used.ensures)

pub get32-last-requires : goal.get32-last-requires
get32-last-requires c =
    let l = c.loop-at in
    let a = ahead-size _ l.invariant.0.ahead (omega (arith, l.invariant.1)) in
    omega (arith, a.0, a.1, l.invariant.0.ahead.whole.used_high)

pub overflow_add-count : goal.overflow_add-count
overflow_add-count c =
    let l = c.loop-at in
    omega (arith, l.invariant.0.few, l.invariant.0.ahead.inside, l.invariant.0.ahead.whole.used_high, l.invariant.0.ahead.whole.short)

pub overflow_add-at : goal.overflow_add-at
overflow_add-at c =
    let l = c.loop-at in
    let a = ahead-size _ l.invariant.0.ahead (omega (arith, l.invariant.1)) in
    omega (arith, a.1, l.invariant.0.ahead.whole.used_high, l.invariant.0.ahead.whole.short, c.get32-last.ensures)

pub loop-at-smaller : goal.loop-at-smaller
loop-at-smaller c =
    let l = c.loop-at in
    let a = ahead-size _ l.invariant.0.ahead (omega (arith, l.invariant.1)) in
    omega (arith, a.0, a.1, l.invariant.1, c.get32-last.ensures)

pub loop-at-preserved : goal.loop-at-preserved
loop-at-preserved c =
    let l = c.loop-at in
    (tally-next _ _ _ _ l.invariant.0 (omega (arith, l.invariant.1)) _ c.get32-last.ensures, l.invariant.1)

pub returns : goal.returns
returns c = let l = c.loop-at in record { records = tally-count _ _ _ _ l.invariant.0 (omega (arith, l.invariant.1)); last = tally-last _ _ _ _ l.invariant.0 (omega (arith, l.invariant.1)) }
