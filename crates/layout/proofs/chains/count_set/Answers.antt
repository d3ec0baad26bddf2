use Rattle.std.proofs.Common.{◌≡◌, ◌∙◌, ◌+◌, ◌-◌, ◌*◌, arith, ℕ, get_or}
use Rattle.layout.proofs.Laws.Bytes.{length_part}
use Rattle.layout.proofs.Walks.Chains.{count_used-end, count_used-split, set-in-part}
use Rattle.layout.proofs.chains.count_set.Goals as goal

pub loop-i-preserved : goal.loop-i-preserved
loop-i-preserved c =
    let l = c.loop-i in
    let m = c.args.marks.now in
    let t = c.args.t in
    let e = c.set_in.ensures.0 ∙ set-in-part m (128 * l.i) 128 (128 * l.i + 128 - 128 * l.i) (omega arith) (omega arith) in
    let d : 128 * (t - l.i) - 128 ≡ 128 * (t - (l.i + 1)) = omega arith in
    let f : 128 * l.i + 128 ≡ 128 * (l.i + 1) = omega arith in
    let s = rw (f, d) at (count_used-split (λ (x : ℕ). get_or m x 0) (128 * l.i) (128 * (t - l.i)) 128 (omega arith)) in
    record {
      small = omega (arith, c.set_in.ensures.1, length_part m (128 * l.i) (128 * l.i + 128 - 128 * l.i) (omega arith), l.invariant.small);
      whole = omega (arith, e, s, l.invariant.whole);
    }

pub returns : goal.returns
returns c =
    let l = c.loop-i in
    let e = count_used-end (λ (x : ℕ). get_or c.args.marks.now x 0) (128 * l.i) (128 * (c.args.t - l.i)) (omega arith) in
    (omega (arith, e, l.invariant.whole), omega (arith, l.invariant.small))
