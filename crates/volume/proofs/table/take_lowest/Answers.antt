use Rattle.std.proofs.Common.{◌<◌, ◌-◌, arith}
use Rattle.volume.proofs.Walks.Grow.{growing, all_grown, grow-found, takeable, taken-below, grow-turn}
use Rattle.volume.proofs.table.take_lowest.Goals as goal

pub loop-init : goal.loop-init
loop-init c = growing _ _ _ _ _ _ _ c.requires.0 c.requires.1 c.requires.2 (omega arith)

pub search-b-requires : goal.search-b-requires
search-b-requires c = (c.loop.invariant.shape, c.loop.invariant.noted.room)

pub take_noted-requires : goal.take_noted-requires
take_noted-requires c =
    let g = c.loop.invariant in
    let pos : 0 < c.args.count - c.loop.counter = omega arith in
    (takeable g pos (grow-found g _ pos c.search-b.ensures), g.noted)

pub overflow_add-from : goal.overflow_add-from
overflow_add-from c =
    let g = c.loop.invariant in
    let pos : 0 < c.args.count - c.loop.counter = omega arith in
    omega (arith, taken-below g pos (grow-found g _ pos c.search-b.ensures), g.shape)

pub loop-preserved : goal.loop-preserved
loop-preserved c =
    let g = c.loop.invariant in
    let pos : 0 < c.args.count - c.loop.counter = omega arith in
    grow-turn g pos (grow-found g _ pos c.search-b.ensures) _ _ _ c.take_noted.ensures.bytes c.take_noted.ensures.notes (omega arith)

pub returns : goal.returns
returns c = all_grown c.loop.invariant (omega arith)
