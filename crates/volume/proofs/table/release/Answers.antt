use Rattle.std.proofs.Common.{◌<◌, ◌-◌, arith}
use Rattle.volume.proofs.Walks.Release.{releasing, below, some-used, turn, all-released}
use Rattle.volume.proofs.table.release.Goals as goal

pub loop-init : goal.loop-init
loop-init c = releasing _ _ _ _ _ c.requires.0 c.requires.1 c.requires.2 (omega arith)

pub entry-following-requires : goal.entry-following-requires
entry-following-requires c = omega (arith, below c.loop.invariant (omega arith), c.loop.invariant.shape)

pub free_block-requires : goal.free_block-requires
free_block-requires c =
    let r = c.loop.invariant in
    let pos : 0 < c.args.k - c.loop.counter = omega arith in
    (r.shape, below r pos, (some-used r pos).0, (some-used r pos).1)

pub loop-preserved : goal.loop-preserved
loop-preserved c = rw (c.free_block.ensures, c.entry-following.ensures) (turn c.loop.invariant (omega arith) _ (omega arith))

pub returns : goal.returns
returns c = all-released c.loop.invariant (omega arith)
