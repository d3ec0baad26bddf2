use Rattle.std.proofs.Common.{◌≡◌, ◌∙◌, ◌+◌, ◌-◌, ap, arith}
use Rattle.layout.specs.Table.{next}
use Rattle.layout.specs.Walks.Chains.{count_used}
use Rattle.layout.proofs.Walks.Chains.{count_used-end, count_used-split, used-in-block}
use Rattle.layout.proofs.table.count_used.Goals as goal

pub loop-b-preserved : goal.loop-b-preserved
loop-b-preserved c =
    let l = c.loop-b in
    let s = c.args.image.now in
    let k = c.min-k.result in
    let e = c.used_in.ensures.0 ∙ used-in-block s _ l.b k c.block-block.ensures.bytes (omega arith) in
    let d = count_used-split (next s) l.b (c.args.n - l.b) k (omega arith) in
    let r : c.args.n - l.b - k ≡ c.args.n - (l.b + k) = omega arith in
    let f = ap (count_used (next s) (l.b + k)) r in
    record { within = omega arith; small = omega (arith, c.used_in.ensures.1, l.invariant.small); whole = omega (arith, e, d, f, l.invariant.whole) }

pub returns : goal.returns
returns c =
    let l = c.loop-b in
    let e = count_used-end (next c.args.image.now) l.b (c.args.n - l.b) (omega arith) in
    (omega (arith, e, l.invariant.whole), omega arith)
