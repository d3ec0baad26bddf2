use Prim.Native.Nat.{◌+◌}
use native.Mathlib.Omega.{arith}
use native.Mathlib.Nat.{sub-zero}
use Rattle.journal.proofs.Walks.Marked.{marked-parts}
use Rattle.journal.proofs.recording.record_size.Goals as goal

pub loop-a-init : goal.loop-a-init
loop-a-init c = (omega arith, omega arith, rw sub-zero (omega arith))

pub count_marked-requires : goal.count_marked-requires
count_marked-requires c = (omega arith, omega arith, omega arith)

pub loop-a-preserved : goal.loop-a-preserved
loop-a-preserved c =
    let l = c.loop-a in
    let a = c.args in
    let parts = marked-parts a.marks.now l.a (l.a + 64) a.n (omega arith) (omega arith) in
    (omega arith, omega arith, omega (arith, parts, c.count_marked.ensures.0, l.invariant.2))

pub count_marked-requires-2 : goal.count_marked-requires-2
count_marked-requires-2 c = (omega arith, omega arith, omega arith)

pub returns : goal.returns
returns c = omega (arith, c.count_marked-2.ensures.0, c.loop-a.invariant.2)
