use Rattle.std.proofs.Common.{◌∙◌, arith}
use Rattle.layout.proofs.Walks.Chains.{used-in-block}
use Rattle.volume.proofs.Walks.Vacant.{in-use-none, in-use-run, free-behind, free-nowhere, free-lowest}
use Rattle.volume.proofs.marks.next_free.Goals as goal

pub loop-b-init : goal.loop-b-init
loop-b-init c = in-use-none _ _

pub returns-then-used-k : goal.returns-then-used-k
returns-then-used-k c = free-lowest _ _ _ _ (free-behind c.loop-b.invariant _ _ c.scan_free.ensures)

pub loop-b-preserved : goal.loop-b-preserved
loop-b-preserved c =
    let l = c.loop-b in
    let k = c.min-k.result in
    in-use-run l.invariant k _ (c.used_in-used.ensures.0 ∙ used-in-block c.args.image.now _ l.b k c.block.ensures.bytes (omega (arith, c.min-k.ensures))) c.if-used-k.false

pub returns : goal.returns
returns c = free-lowest _ _ _ _ (free-nowhere c.loop-b.invariant _ (omega arith))
