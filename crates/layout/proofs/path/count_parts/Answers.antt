use Rattle.std.proofs.Common.{refl, sym, ◌∙◌, arith}
use Rattle.layout.proofs.Walks.Paths.{good_from-bad, good_from-next, good_from-end}
use Rattle.layout.proofs.path.count_parts.Goals as goal

pub loop-end-init : goal.loop-end-init
loop-end-init c = let e = c.part_end-end.ensures in (omega arith, e.1, e.0, omega arith, refl)

pub slice_bounds-good_name-count : goal.slice_bounds-good_name-count
slice_bounds-good_name-count c = omega arith

pub slice_bounds-good_name-start : goal.slice_bounds-good_name-start
slice_bounds-good_name-start c = omega arith

pub returns-then-not-good_name : goal.returns-then-not-good_name
returns-then-not-good_name c =
    let l = c.loop-end in
    l.invariant.4 ∙ good_from-bad c.args.rest.now l.at l.end (omega arith) l.invariant.2 l.count l.invariant.1 (sym c.if-not-good_name.true ∙ c.good_name.ensures)

pub overflow_add-count : goal.overflow_add-count
overflow_add-count c = omega arith

pub loop-end-preserved : goal.loop-end-preserved
loop-end-preserved c =
    let l = c.loop-end in
    let e = c.part_end-end-in-loop-end.ensures in
    (omega arith, e.1, e.0, omega arith, l.invariant.4 ∙ good_from-next c.args.rest.now l.at l.end (omega arith) l.invariant.2 l.count (omega arith) (sym c.if-not-good_name.false ∙ c.good_name.ensures))

pub slice_bounds-good_name-count-2 : goal.slice_bounds-good_name-count-2
slice_bounds-good_name-count-2 c = omega arith

pub slice_bounds-good_name-start-2 : goal.slice_bounds-good_name-start-2
slice_bounds-good_name-start-2 c = omega arith

pub slice_bounds-good_name-end-2 : goal.slice_bounds-good_name-end-2
slice_bounds-good_name-end-2 c = omega arith

pub returns-then-not-good_name-2 : goal.returns-then-not-good_name-2
returns-then-not-good_name-2 c =
    let l = c.loop-end in
    l.invariant.4 ∙ good_from-bad c.args.rest.now l.at l.end (omega arith) l.invariant.2 l.count l.invariant.1 (sym c.if-not-good_name-2.true ∙ c.good_name-2.ensures)

pub overflow_add-result : goal.overflow_add-result
overflow_add-result c = omega arith

pub returns : goal.returns
returns c =
    let l = c.loop-end in (
      sym (l.invariant.4 ∙ good_from-end c.args.rest.now l.at l.end (omega arith) l.invariant.2 l.count (omega arith) l.invariant.1 (sym c.if-not-good_name-2.false ∙ c.good_name-2.ensures)),
      λ z. omega arith,
    )
