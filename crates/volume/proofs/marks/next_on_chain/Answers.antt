use Rattle.std.proofs.Common.{arith}
use Rattle.layout.proofs.Walks.Shapes.{run-first}
use Rattle.volume.proofs.Walks.Vacant.{nearing, nearest, near-turn}
use Rattle.volume.proofs.marks.next_on_chain.Goals as goal

pub loop-init : goal.loop-init
loop-init c = nearing _ _ _ _ _ _ c.requires (omega arith)

pub ahead-requires : goal.ahead-requires
ahead-requires c = run-first c.loop.invariant.run (omega arith)

pub entry-b-requires : goal.entry-b-requires
entry-b-requires c = omega (arith, run-first c.loop.invariant.run (omega arith), c.requires.shape)

pub loop-preserved : goal.loop-preserved
loop-preserved c = rw (c.entry-b.ensures, c.min-lowest.ensures) (near-turn c.loop.invariant _ _ (omega arith) c.ahead.ensures)

pub returns : goal.returns
returns c = nearest c.loop.invariant (omega arith)
