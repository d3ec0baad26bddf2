use mathlib.Core.Path.{sym, ◌∙◌}
use Prim.Native.Nat.{◌+◌}
use native.Mathlib.Omega.{arith}
use Rattle.journal.proofs.Walks.Saves.{marks-fewer, save-all, save-room, save-more, save-none}
use Rattle.journal.proofs.recording.save_blocks.Goals as goal

pub loop-b-init : goal.loop-b-init
loop-b-init c = save-all _ _ _ _ _

pub count_marked-requires : goal.count_marked-requires
count_marked-requires c = (omega arith, omega arith, omega arith)

pub loop-b-preserved-then-count_marked-eq0 : goal.loop-b-preserved-then-count_marked-eq0
loop-b-preserved-then-count_marked-eq0 c =
    let l = c.loop-b in
    let p = c.requires in
    save-none _ _ _ _ _ _ _ _ _ l.invariant p.0 p.1 (l.b + 64) (omega arith) (omega arith) (sym c.count_marked.ensures.0 ∙ c.if-count_marked-eq0.true)

pub save_range-p-requires : goal.save_range-p-requires
save_range-p-requires c =
    let l = c.loop-b in
    let p = c.requires in
    (omega arith, marks-fewer _ _ _ _ p.0 (omega arith), save-room _ _ _ _ _ _ _ _ _ l.invariant p.0 p.1 (l.b + 64) (omega arith) (omega arith))

pub loop-b-preserved : goal.loop-b-preserved
loop-b-preserved c =
    let save-range = c.save_range-p in
    let l = c.loop-b in
    let p = c.requires in
    save-more _ _ _ _ _ _ _ _ _ l.invariant p.0 p.1 (l.b + 64) (omega arith) (omega arith) _ save-range.ensures.1 _ save-range.ensures.0

pub save_range-requires : goal.save_range-requires
save_range-requires c =
    let i = c.loop-b.invariant in
    let p = c.requires in
    (i.within, p.0, omega (arith, i.place, i.long, p.1))

pub shape_of-journal : goal.shape_of-journal
shape_of-journal c =
    let save-range = c.save_range in
    let i = c.loop-b.invariant in
    let p = c.requires in
    (save-more _ _ _ _ _ _ _ _ _ i p.0 p.1 _ i.within (omega arith) _ save-range.ensures.1 _ save-range.ensures.0).long

pub returns : goal.returns
returns c = c.save_range.ensures.1 ∙ sym c.loop-b.invariant.whole
