use Rattle.std.proofs.Common.{◌≡◌, ◌∙◌, sym, length, arith}
use Rattle.layout.proofs.Walks.Names.{all_zero-more, all_zero-end}
use Rattle.layout.proofs.bytes.all_zero.Goals as goal

pub loop-x-preserved : goal.loop-x-preserved
loop-x-preserved c =
    let l = c.loop-x in
    l.invariant ∙ all_zero-more c.args.s.now l.x-index l.worst _ (omega arith) c.max-worst.ensures

pub returns : goal.returns
returns c =
    let l = c.loop-x in
    let e : l.x-index ≡ length c.args.s.now = omega arith in
    all_zero-end c.args.s.now l.worst ∙ sym (rw e at l.invariant)
