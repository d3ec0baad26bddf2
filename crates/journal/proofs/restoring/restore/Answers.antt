use mathlib.Core.Path.{◌≡◌, ◌∙◌}
use Prim.Native.Nat.{◌+◌, ◌-◌, ◌*◌}
use native.Mathlib.Omega.{arith}
use lib.ListN.{length, length-take, length-drop}
use Rattle.journal.specs.Journal.{bytes_at}
use Rattle.layout.proofs.Laws.Bytes.{lent, length_part}
use Rattle.journal.proofs.Walks.Restores.{restore-start, restore-below, restore-one, restore-end}
use Rattle.journal.proofs.restoring.restore.Goals as goal

pub loop-i-init : goal.loop-i-init
loop-i-init c = restore-start _ _ _ _ _ c.requires.below

pub overflow_mul-a : goal.overflow_mul-a
overflow_mul-a c =
    let h = restore-below _ _ _ _ _ _ _ c.loop-i.invariant (omega arith) in
    omega (arith, c.get32.ensures)

pub overflow_add-e : goal.overflow_add-e
overflow_add-e c =
    let h = restore-below _ _ _ _ _ _ _ c.loop-i.invariant (omega arith) in
    omega (arith, c.get32.ensures)

pub slice_bounds-copy-end-in-loop-i : goal.slice_bounds-copy-end-in-loop-i
slice_bounds-copy-end-in-loop-i c =
    let h = restore-below _ _ _ _ _ _ _ c.loop-i.invariant (omega arith) in
    omega (arith, c.get32.ensures, c.loop-i.invariant.long)

pub copy-requires : goal.copy-requires
copy-requires c =
    let h = restore-below _ _ _ _ _ _ _ c.loop-i.invariant (omega arith) in
    simp (length-take, length-drop) (omega (arith, c.get32.ensures, c.loop-i.invariant.long))

pub loop-i-preserved : goal.loop-i-preserved
loop-i-preserved c =
    let get32 = c.get32 in
    let l = c.loop-i in
    let a = c.args in
    let g = get32.ensures in
    let h = restore-below _ _ _ _ _ _ _ l.invariant (omega arith) in
    let b = get32.result in
    let o : a.at + 4 + 516 * l.i + 4 ≡ a.at + 8 + 516 * l.i = omega arith in
    let w : a.at + 4 + 516 * l.i + 4 + 512 - (a.at + 4 + 516 * l.i + 4) ≡ 512 = omega arith in
    let q : length (bytes_at a.journal.now a.at l.i) ≡ 512 = length_part a.journal.now (a.at + 8 + 516 * l.i) 512 (omega arith) in
    restore-one _ _ _ _ _ _ _ l.invariant (omega arith) _ (omega arith)
    (lent l.image (512 * b) (512 * b + 512 - 512 * b) _ (bytes_at a.journal.now a.at l.i) (c.copy.ensures ∙ rw (w, o)) (q ∙ omega arith) ∙ rw g)

pub shape_of-image : goal.shape_of-image
shape_of-image c = c.loop-i.invariant.long

pub returns : goal.returns
returns c = restore-end _ _ _ _ _ _ _ c.loop-i.invariant (omega arith)
