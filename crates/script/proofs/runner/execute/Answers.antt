use Prim.Native.Nat.{◌+◌, ◌-◌}
use mathlib.Core.Path.{◌≡◌, refl, ◌∙◌}
use native.Mathlib.Omega.{arith}
use Rattle.layout.proofs.Laws.Bytes.{length_part}
use Rattle.script.proofs.Walks.Running.{run-start, run-next, run-turn, run_end}
use Rattle.script.proofs.runner.execute.Goals as goal

pub loop-at-init : goal.loop-at-init
loop-at-init c = (run-start _ _ _ _ c.requires.0 c.requires.1, refl, refl, refl)

pub item_size-size-requires : goal.item_size-size-requires
item_size-size-requires c = let n = run-next _ _ _ _ _ _ _ _ c.loop-at.invariant.0 c.loop-at-test.true in omega (arith, n.0.fits)

pub answer_size-requires : goal.answer_size-requires
answer_size-requires c = (run-next _ _ _ _ _ _ _ _ c.loop-at.invariant.0 c.loop-at-test.true).0.fits

pub overflow_add-r : goal.overflow_add-r
overflow_add-r c = omega (arith, c.answer_size.ensures, (run-next _ _ _ _ _ _ _ _ c.loop-at.invariant.0 c.loop-at-test.true).1)

pub slice_bounds-make-count : goal.slice_bounds-make-count
slice_bounds-make-count c = omega arith

pub slice_bounds-make-start : goal.slice_bounds-make-start
slice_bounds-make-start c =
    let answer-size = c.answer_size in
    let loop-test = c.loop-at-test in
    let l = c.loop-at in
    omega (arith, answer-size.ensures, (run-next _ _ _ _ _ _ _ _ l.invariant.0 loop-test.true).1)

pub slice_bounds-make-end : goal.slice_bounds-make-end
slice_bounds-make-end c =
    let answer-size = c.answer_size in
    let loop-test = c.loop-at-test in
    let l = c.loop-at in
    omega (arith, answer-size.ensures, (run-next _ _ _ _ _ _ _ _ l.invariant.0 loop-test.true).1)

pub make-requires : goal.make-requires
make-requires c =
    let answer-size = c.answer_size in
    let loop-test = c.loop-at-test in
    let l' = c.loop-at in
    let n = run-next _ _ _ _ _ _ _ _ l'.invariant.0 loop-test.true in
    let l : l'.q + answer-size.result - l'.q ≡ answer-size.result = omega arith in (
      record {
        fits = n.0.fits;
        room = length_part l'.out l'.q (l'.q + answer-size.result - l'.q)
            (omega (arith, answer-size.ensures, n.1)) ∙ l ∙ answer-size.ensures;
      },
      n.0.low,
    )

pub overflow_add-at : goal.overflow_add-at
overflow_add-at c =
    let item-size = c.item_size-size in
    let loop-test = c.loop-at-test in
    let l = c.loop-at in
    let n = run-next _ _ _ _ _ _ _ _ l.invariant.0 loop-test.true in omega (arith, item-size.ensures, n.0.fits)

pub loop-at-smaller : goal.loop-at-smaller
loop-at-smaller c =
    let item-size = c.item_size-size in
    let loop-test = c.loop-at-test in
    let l = c.loop-at in
    let n = run-next _ _ _ _ _ _ _ _ l.invariant.0 loop-test.true in omega (arith, item-size.ensures, n.0.fits)

pub loop-at-preserved : goal.loop-at-preserved
loop-at-preserved c =
    let make = c.make in
    let answer-size = c.answer_size in
    let item-size = c.item_size-size in
    let loop-test = c.loop-at-test in
    let l = c.loop-at in (
      run-turn _ _ _ _ _ _ _ _ l.invariant.0 loop-test.true _ _ item-size.ensures answer-size.ensures _ _ _ make.ensures (omega arith),
      omega arith,
      omega arith,
      omega arith,
    )

pub shape_of-image : goal.shape_of-image
shape_of-image c = c.loop-at.invariant.1

pub shape_of-journal : goal.shape_of-journal
shape_of-journal c = c.loop-at.invariant.2

pub shape_of-out : goal.shape_of-out
shape_of-out c = c.loop-at.invariant.3

pub returns : goal.returns
returns c = run_end _ _ _ _ _ _ _ _ c.loop-at.invariant.0 c.loop-at-test.false
