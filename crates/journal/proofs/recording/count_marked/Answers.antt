use mathlib.Core.Path.{ap}
use native.Mathlib.Omega.{arith}
use lib.ListN.{length}
use Rattle.journal.proofs.Walks.Marked.{marked_next, marked-done}
use Rattle.journal.proofs.recording.count_marked.Goals as goal

pub loop-b-init : goal.loop-b-init
loop-b-init c = (omega arith, omega arith, omega arith)

pub loop-b-preserved : goal.loop-b-preserved
loop-b-preserved c =
    let l = c.loop-b in
    let d = c.args in
    let next = marked_next d.marks.now l.b d.e (omega arith) in
    (omega arith, omega arith, omega (arith, next, c.mark_bit-count.ensures.0, l.invariant.2))

pub returns : goal.returns
returns c =
    let l = c.loop-b in
    let d = c.args in
    let e = ap length (marked-done d.marks.now l.b d.e (omega arith)) in
    (omega (arith, e, l.invariant.2), omega (arith, e, l.invariant.2))
