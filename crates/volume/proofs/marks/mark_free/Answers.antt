use Rattle.std.proofs.Common.{arith}
use Rattle.volume.proofs.Walks.Grow.{marking-free, free-marked, mark-below, mark-turn}
use Rattle.volume.proofs.marks.mark_free.Goals as goal

pub loop-init : goal.loop-init
loop-init c = marking-free _ _ _ _ _ c.requires.1 c.requires.2 (omega arith)

pub next_vacant-b-requires : goal.next_vacant-b-requires
next_vacant-b-requires c = (c.requires.0, c.loop.invariant.place, omega (arith, c.loop.invariant.enough))

pub mark-requires : goal.mark-requires
mark-requires c = omega (arith, mark-below c.loop.invariant (omega arith) c.next_vacant-b.ensures, c.loop.invariant.size)

pub mark-requires-in-loop : goal.mark-requires-in-loop
mark-requires-in-loop c = omega (arith, mark-below c.loop.invariant (omega arith) c.next_vacant-b.ensures, c.loop.invariant.size, c.requires.0.shape)

pub overflow_add-from : goal.overflow_add-from
overflow_add-from c = omega (arith, mark-below c.loop.invariant (omega arith) c.next_vacant-b.ensures)

pub loop-preserved : goal.loop-preserved
loop-preserved c = rw (c.mark-in-loop.ensures, c.mark.ensures) (mark-turn c.loop.invariant (omega arith) c.next_vacant-b.ensures _ (omega arith))

pub returns : goal.returns
returns c = free-marked c.loop.invariant (omega arith)
