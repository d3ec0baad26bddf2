use Rattle.std.proofs.Common.{◌≡◌, ◌∙◌, sym, arith, length}
use Rattle.layout.proofs.Walks.Names.{same-lengths, same_more, same_end}
use Rattle.layout.proofs.bytes.equal.Goals as goal

pub returns-then-a-b : goal.returns-then-a-b
returns-then-a-b c = sym (same-lengths c.args.a.now c.args.b.now c.if-a-b.true)

pub loop-i-preserved : goal.loop-i-preserved
loop-i-preserved c =
    let l = c.loop-i in
    (l.invariant.0, l.invariant.1 ∙ same_more _ _ l.i l.worst _ _ (omega arith) (omega arith) c.from.ensures c.max-worst.ensures)

pub returns : goal.returns
returns c =
    let l = c.loop-i in
    let e : l.i ≡ length c.args.a.now = omega arith in
    same_end c.args.a.now c.args.b.now l.worst l.invariant.0 ∙ sym (rw e at l.invariant.1)
