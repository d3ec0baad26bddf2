use Rattle.std.proofs.Common.{◌<◌, arith}
use Rattle.volume.proofs.Walks.Marks.{marking-start, marking-turn, marking-end}
use Rattle.layout.proofs.Walks.Shapes.{run-first}
use Rattle.volume.proofs.marks.mark_each.Goals as goal

pub loop-init : goal.loop-init
loop-init g c = marking-start _ _ _ _ _ _ _ c.requires.chain (omega arith)

pub mark-requires : goal.mark-requires
mark-requires g c =
    let r : c.of.result < c.args.n = c.requires.below _ _ (run-first c.loop.invariant.run (omega arith)) c.of.ensures in
    omega (arith, c.requires.room)

pub entry-b-requires : goal.entry-b-requires
entry-b-requires g c = omega (arith, run-first c.loop.invariant.run (omega arith), c.requires.chain.shape)

pub loop-preserved : goal.loop-preserved
loop-preserved g c = rw (c.mark.ensures, c.entry-b.ensures) (marking-turn c.loop.invariant _ _ (omega arith) c.of.ensures)

pub returns : goal.returns
returns g c = marking-end c.loop.invariant (omega arith)
