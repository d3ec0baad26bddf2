use mathlib.Core.Path.{refl, sym, ◌∙◌}
use native.Mathlib.Omega.{arith}
use Rattle.layout.proofs.Walks.Paths.{last-next, last_end}
use Rattle.layout.proofs.path.last_start.Goals as goal

pub part_end-end-requires : goal.part_end-end-requires
part_end-end-requires c = omega arith

pub loop-end-init : goal.loop-end-init
loop-end-init c = let e = c.part_end-end.ensures in (omega arith, e.1, e.0, refl)

pub overflow_add-at : goal.overflow_add-at
overflow_add-at c = omega arith

pub part_end-end-requires-in-loop-end : goal.part_end-end-requires-in-loop-end
part_end-end-requires-in-loop-end c = omega arith

pub loop-end-smaller : goal.loop-end-smaller
loop-end-smaller c = let e = c.part_end-end-in-loop-end.ensures in omega arith

pub loop-end-preserved : goal.loop-end-preserved
loop-end-preserved c =
    let l = c.loop-end in
    let e = c.part_end-end-in-loop-end.ensures in
    (omega arith, e.1, e.0, l.invariant.3 ∙ last-next c.args.rest.now l.at l.end (omega arith) l.invariant.2 (omega arith))

pub returns : goal.returns
returns c =
    let l = c.loop-end in
    (sym (l.invariant.3 ∙ last_end c.args.rest.now l.at l.end (omega arith) l.invariant.2 (omega arith) l.invariant.1), omega arith)
