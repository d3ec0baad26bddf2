use native.Mathlib.Omega.{arith}
use Rattle.layout.proofs.Walks.Looks.{located-below}
use Rattle.volume.proofs.Walks.Plan.{plan-sizes, planned}
use Rattle.volume.proofs.write.plan_write.Goals as goal

pub needed-k-requires : goal.needed-k-requires
needed-k-requires c =
    let p = c.requires in
    let z = plan-sizes p.1 _ _ p.0 p.2 in
    (z.0, omega arith, z.2, omega arith)

pub last_block-last-requires : goal.last_block-last-requires
last_block-last-requires c =
    let p = c.requires in
    located-below p.1.located p.1.accepted p.0

pub overflow_add-offset : goal.overflow_add-offset
overflow_add-offset c =
    let p = c.requires in
    omega (arith, plan-sizes p.1 _ _ p.0 p.2)

pub overflow_add-result : goal.overflow_add-result
overflow_add-result c =
    let p = c.requires in
    omega (arith, plan-sizes p.1 _ _ p.0 p.2, c.needed-k.ensures)

pub returns : goal.returns
returns c =
    let p = c.requires in
    record {
      plan = planned p.1 _ _ p.0 p.2 _ c.needed-k.ensures _ _ c.last_block-last.ensures c.max.ensures;
      last = c.last_block-last.ensures;
      taken = c.needed-k.ensures;
    }
