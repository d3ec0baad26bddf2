use Rattle.std.proofs.Common.{◌<◌, length, arith}
use Rattle.std.proofs.Math.Seq.{length-take-le}
use borrow.Author.Tests.{true-eqb, false-eqb}
use Rattle.layout.proofs.Laws.Bytes.{part-rest}
use Rattle.volume.proofs.Walks.Put.{put-start, put-end, block-below, put-pass, put_step}
use Rattle.volume.proofs.data.put_data.Goals as goal

pub loop-rest-init : goal.loop-rest-init
loop-rest-init c = put-start _ _ _ _ _ _ c.requires

pub entry-b-requires : goal.entry-b-requires
entry-b-requires c =
    let r = c.loop-rest.invariant in
    let some : 0 < length c.loop-rest.rest.now = omega (arith, false-eqb (length c.loop-rest.rest.now) 0 c.loop-rest-test.ensures) in
    omega (arith, block-below r some, r.whole, r.low)

pub loop-rest-preserved-then-o-ge512 : goal.loop-rest-preserved-then-o-ge512
loop-rest-preserved-then-o-ge512 c =
    let some : 0 < length c.loop-rest.rest.now = omega (arith, false-eqb (length c.loop-rest.rest.now) 0 c.loop-rest-test.ensures) in
    rw c.entry-b.ensures (put-pass c.loop-rest.invariant some c.if-o-ge512.true)

pub put_part-requires : goal.put_part-requires
put_part-requires c =
    let r = c.loop-rest.invariant in
    let some : 0 < length c.loop-rest.rest.now = omega (arith, false-eqb (length c.loop-rest.rest.now) 0 c.loop-rest-test.ensures) in
    (omega (arith, block-below r some, r.whole), omega (arith, c.min-count.ensures, length-take-le c.min-count.result c.loop-rest.rest.now (omega (arith, c.min-count.ensures))))

pub entry-b-requires-in-loop-rest : goal.entry-b-requires-in-loop-rest
entry-b-requires-in-loop-rest c =
    let r = c.loop-rest.invariant in
    let some : 0 < length c.loop-rest.rest.now = omega (arith, false-eqb (length c.loop-rest.rest.now) 0 c.loop-rest-test.ensures) in
    omega (arith, block-below r some, r.whole, r.low, c.put_part.auto.image)

pub loop-rest-preserved : goal.loop-rest-preserved
loop-rest-preserved c =
    let r = c.loop-rest.invariant in
    let some : 0 < length c.loop-rest.rest.now = omega (arith, false-eqb (length c.loop-rest.rest.now) 0 c.loop-rest-test.ensures) in
    rw (c.entry-b-in-loop-rest.ensures, c.put_part.ensures) (rw part-rest (put_step r some c.min-count.result c.if-o-ge512.false c.min-count.ensures))

pub returns : goal.returns
returns c = put-end c.loop-rest.invariant (true-eqb _ _ c.loop-rest-test.ensures)
