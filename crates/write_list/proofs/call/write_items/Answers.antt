use native.Mathlib.Omega.{arith}
use mathlib.Core.Path.{refl}
use Rattle.std.specs.Prelude.{Result}
use Rattle.std.proofs.Common.{sym, ap, ◌∙◌}
use Rattle.layout.specs.declared.refusal.Refusal.{Refusal}
use Rattle.layout.specs.Reasons.{outcome}
use Rattle.layout.proofs.Laws.Reasons.{reason}
use Rattle.write_list.proofs.Laws.Items.{item}
use Rattle.write_list.proofs.Laws.Turns.{form, write-start, write-item, write-stop, write-more, write-end}
use Rattle.write_list.proofs.call.write_items.Goals as goal

pub loop-at-init : goal.loop-at-init
loop-at-init c = (write-start _ _ c.requires.0 c.requires.1, refl, refl, omega (arith, (form _ c.requires.1).high))

pub write_item-requires : goal.write_item-requires
write_item-requires c =
    let l = c.loop-at in
    (l.invariant.0.ready, write-item _ _ _ _ _ l.invariant.0 c.loop-at-test.true)

pub returns-in-Err : goal.returns-in-Err
returns-in-Err c =
    let r = c.write_item in
    let t = c.loop-at-test in
    let l = c.loop-at in
    write-stop _ _ _ _ _ l.invariant.0 t.true _ r.ensures.state _ (sym (ap (λ (r : Result (Unit {0}) Refusal). outcome r) c.in-Err.is) ∙ r.ensures.number) (reason c.in-Err.why)

pub overflow_add-done : goal.overflow_add-done
overflow_add-done c =
    let l = c.loop-at in
    omega (arith, l.invariant.0.few, l.invariant.0.ahead.inside, l.invariant.3)

pub get32-requires : goal.get32-requires
get32-requires c =
    let r = c.write_item in
    let t = c.loop-at-test in
    let l = c.loop-at in
    let i = item _ _ (write-item _ _ _ _ _ l.invariant.0 t.true) in
    omega (arith, i.ends, i.room)

pub overflow_add-at : goal.overflow_add-at
overflow_add-at c =
    let r = c.write_item in
    let t = c.loop-at-test in
    let l = c.loop-at in
    let i = item _ _ (write-item _ _ _ _ _ l.invariant.0 t.true) in
    omega (arith, i.ends, i.room, c.get32.ensures)

pub loop-at-smaller : goal.loop-at-smaller
loop-at-smaller c =
    let r = c.write_item in
    let t = c.loop-at-test in
    let l = c.loop-at in
    let i = item _ _ (write-item _ _ _ _ _ l.invariant.0 t.true) in
    omega (arith, i.ends, i.room, c.get32.ensures)

pub loop-at-preserved : goal.loop-at-preserved
loop-at-preserved c =
    let r = c.write_item in
    let t = c.loop-at-test in
    let l = c.loop-at in
    (write-more _ _ _ _ _ l.invariant.0 t.true _ r.ensures.state 0 c.in_default.ensures.number refl _ c.get32.ensures, omega arith, omega arith, l.invariant.3)

pub shape_of-image : goal.shape_of-image
shape_of-image c = c.loop-at.invariant.1

pub shape_of-journal : goal.shape_of-journal
shape_of-journal c = c.loop-at.invariant.2

pub returns : goal.returns
returns c = write-end _ _ _ _ _ c.loop-at.invariant.0 (omega arith)
