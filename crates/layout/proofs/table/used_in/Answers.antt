use Rattle.std.proofs.Common.{◌≡◌, ◌+◌, ◌-◌, ap, arith}
use Rattle.layout.specs.Walks.Chains.{count_used, entry_in, bit}
use Rattle.layout.proofs.Walks.Chains.{count_used-end, count_used-next, used-word, bit-is}
use Rattle.layout.proofs.table.used_in.Goals as goal

pub loop-at-preserved : goal.loop-at-preserved
loop-at-preserved c =
    let l = c.loop-at in
    let a = c.args in
    let v = entry_in a.block.now in
    let b = bit-is _ _ c.from-count.ensures in
    let e = ap bit (used-word a.block.now l.at _ c.word.ensures) in
    let d : a.j + a.k - l.at - 1 ≡ a.j + a.k - (l.at + 1) = omega arith in
    let r = ap (count_used v (l.at + 1)) d in
    record {
      small = omega (arith, b.1, l.invariant.small);
      whole = omega (arith, count_used-next v l.at (a.j + a.k - l.at) (omega arith), l.invariant.whole, b.0, e, r);
    }

pub returns : goal.returns
returns c =
    let l = c.loop-at in
    let a = c.args in
    let e = count_used-end (entry_in a.block.now) l.at (a.j + a.k - l.at) (omega arith) in
    (omega (arith, e, l.invariant.whole), omega (arith, l.invariant.small))
