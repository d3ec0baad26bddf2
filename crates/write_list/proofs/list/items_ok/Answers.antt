use mathlib.Core.Path.{sym, ◌∙◌}
use native.Mathlib.Omega.{arith}
use Rattle.write_list.proofs.Laws.Items.{item}
use Rattle.write_list.proofs.Laws.Turns.{scan-start, scan-bad, scan_step, scan-end}
use Rattle.write_list.proofs.list.items_ok.Goals as goal

pub loop-at-init : goal.loop-at-init
loop-at-init c = scan-start _ (omega (arith, c.requires))

pub item_ok-requires : goal.item_ok-requires
item_ok-requires c = c.loop-at-test.true

pub returns-then-not-item_ok : goal.returns-then-not-item_ok
returns-then-not-item_ok c =
    sym (scan-bad _ _ c.loop-at.invariant c.loop-at-test.true (sym c.item_ok.ensures ∙ c.if-not-item_ok.true))

pub get32-requires : goal.get32-requires
get32-requires c =
    let i = item _ _ (sym c.item_ok.ensures ∙ c.if-not-item_ok.false) in
    omega (arith, i.ends, i.room)

pub overflow_add-at : goal.overflow_add-at
overflow_add-at c =
    let i = item _ _ (sym c.item_ok.ensures ∙ c.if-not-item_ok.false) in
    omega (arith, i.ends, i.room, c.get32.ensures)

pub loop-at-smaller : goal.loop-at-smaller
loop-at-smaller c =
    let i = item _ _ (sym c.item_ok.ensures ∙ c.if-not-item_ok.false) in
    omega (arith, i.ends, i.room, c.get32.ensures)

pub loop-at-preserved : goal.loop-at-preserved
loop-at-preserved c =
    let Item-ok = c.item_ok in
    rw c.get32.ensures (scan_step _ _ c.loop-at.invariant c.loop-at-test.true (sym Item-ok.ensures ∙ c.if-not-item_ok.false))

pub returns : goal.returns
returns c = sym (scan-end _ _ c.loop-at.invariant (omega arith))
