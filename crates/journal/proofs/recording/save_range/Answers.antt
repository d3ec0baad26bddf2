use mathlib.Core.Path.{◌≡◌, ◌∙◌}
use Prim.Native.Nat.{◌+◌, ◌-◌, ◌*◌}
use native.Mathlib.Omega.{arith}
use lib.ListN.{length-take, length-drop}
use Rattle.layout.proofs.Laws.Bytes.{lent}
use Rattle.journal.proofs.Laws.Records.{piece, length-piece}
use Rattle.journal.proofs.Walks.Saves.{save-start, save-skip, save-room-one, save-one, save-place, save-end}
use Rattle.journal.proofs.recording.save_range.Goals as goal

pub loop-b-init : goal.loop-b-init
loop-b-init c = save-start _ _ _ _ _ _ (omega arith)

pub loop-b-preserved-then-marks-b-eq0 : goal.loop-b-preserved-then-marks-b-eq0
loop-b-preserved-then-marks-b-eq0 c =
    let l = c.loop-b in
    let p = c.requires in
    save-skip _ _ _ _ _ _ _ _ _ l.invariant p.1 p.2 (omega arith) c.if-marks-b-eq0.true

pub overflow_add-q : goal.overflow_add-q
overflow_add-q c =
    let l = c.loop-b in
    let p = c.requires in
    let r = save-room-one _ _ _ _ _ _ _ _ _ l.invariant p.1 p.2 (omega arith) c.if-marks-b-eq0.false in
    omega arith

pub slice_bounds-save_block-end-in-loop-b : goal.slice_bounds-save_block-end-in-loop-b
slice_bounds-save_block-end-in-loop-b c =
    let l = c.loop-b in
    let p = c.requires in
    let r = save-room-one _ _ _ _ _ _ _ _ _ l.invariant p.1 p.2 (omega arith) c.if-marks-b-eq0.false in
    omega arith

pub save_block-requires : goal.save_block-requires
save_block-requires c =
    let if1 = c.if-marks-b-eq0 in
    let l = c.loop-b in
    let p = c.requires in
    let r = save-room-one _ _ _ _ _ _ _ _ _ l.invariant p.1 p.2 (omega arith) if1.false in
    (simp (length-take, length-drop) (omega arith), simp (length-take, length-drop) (omega arith), omega arith)

pub loop-b-preserved : goal.loop-b-preserved
loop-b-preserved c =
    let save-block = c.save_block in
    let if1 = c.if-marks-b-eq0 in
    let l = c.loop-b in
    let a = c.args in
    let p = c.requires in
    let b = l.b in
    let n : 512 * b + 512 - 512 * b ≡ 512 = omega arith in
    let k = p.1 in
    save-one _ _ _ _ _ _ _ _ _ l.invariant k p.2 (omega arith) if1.false _
    (lent _ l.p (l.p + 516 - l.p) _ (piece a.image.now b) (save-block.ensures ∙ rw n)
    (length-piece a.e a.image.now k.whole k.blocks b (omega arith) ∙ omega arith))

pub shape_of-journal : goal.shape_of-journal
shape_of-journal c = c.loop-b.invariant.long

pub returns : goal.returns
returns c =
    let l = c.loop-b in
    let p = c.requires in
    (save-place _ _ _ _ _ _ _ _ _ l.invariant p.1 p.2 (omega arith), save-end _ _ _ _ _ _ _ _ _ l.invariant p.1 p.2 (omega arith))
