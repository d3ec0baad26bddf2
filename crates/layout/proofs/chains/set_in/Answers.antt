use Rattle.std.proofs.Common.{◌≡◌, ◌+◌, ◌-◌, ap, arith, ℕ, length, get_or}
use Rattle.layout.specs.Walks.Chains.{count_used}
use Rattle.layout.proofs.Walks.Chains.{count_used-end, count_used-next, bit-is}
use Rattle.layout.proofs.chains.set_in.Goals as goal

pub loop-mark-preserved : goal.loop-mark-preserved
loop-mark-preserved c =
    let l = c.loop-mark in
    let m = c.args.marks.now in
    let v = λ (i : ℕ). get_or m i 0 in
    let b = bit-is _ _ c.from-count.ensures in
    let d : length m - l.mark-index - 1 ≡ length m - (l.mark-index + 1) = omega arith in
    let r = ap (count_used v (l.mark-index + 1)) d in
    record {
      small = omega (arith, b.1, l.invariant.small);
      whole = omega (arith, count_used-next v l.mark-index (length m - l.mark-index) (omega arith), l.invariant.whole, b.0, r);
    }

pub returns : goal.returns
returns c =
    let l = c.loop-mark in
    let m = c.args.marks.now in
    let e = count_used-end (λ (i : ℕ). get_or m i 0) l.mark-index (length m - l.mark-index) (omega arith) in
    (omega (arith, e, l.invariant.whole), omega (arith, l.invariant.small))
