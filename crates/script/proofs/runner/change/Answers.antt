use mathlib.Core.Path.{◌∙◌}
use native.Mathlib.Omega.{arith}
use Rattle.script.proofs.Walks.Scripts.{size-high, is-put-in, is-undo}
use Rattle.script.proofs.Walks.Making.{item-change, change-made}
use Rattle.script.proofs.runner.change.Goals as goal

pub undo-requires : goal.undo-requires
undo-requires c =
    let a = c.args in
    let p = c.requires in
    p.0.room ∙ size-high a.script.now a.at p.1

pub returns-then-script-at-eq8 : goal.returns-then-script-at-eq8
returns-then-script-at-eq8 c = rw (is-undo _ _ c.if-script-at-eq8.true) c.undo.ensures

pub put_in-requires : goal.put_in-requires
put_in-requires c =
    let a = c.args in
    let p = c.requires in
    (p.0.fits, p.0.room ∙ size-high a.script.now a.at p.1)

pub returns-then-script-at-eq21 : goal.returns-then-script-at-eq21
returns-then-script-at-eq21 c = rw (is-put-in _ _ c.if-script-at-eq21.true) c.put_in.ensures

pub change_of-what-requires : goal.change_of-what-requires
change_of-what-requires c = (c.requires.0.fits, c.if-script-at-eq21.false)

pub put_numbers-requires : goal.put_numbers-requires
put_numbers-requires c =
    let a = c.args in
    let p = c.requires in
    omega (arith, p.0.room, size-high a.script.now a.at p.1)

pub returns : goal.returns
returns c =
    let put-numbers = c.put_numbers in
    let changed-numbers = c.changed_numbers in
    let change = c.change-c in
    let data_of = c.data_of-bytes in
    let name-of = c.name_of-name in
    let change-of = c.change_of-what in
    let if1 = c.if-script-at-eq8 in
    let p = c.requires in
    let call = item-change _ _ change-of.result _ _ name-of.ensures data_of.ensures change-of.ensures p.1 if1.false in
    change-made _ _ _ _ _ _ _ _ _ _ changed-numbers.ensures put-numbers.ensures _ _ call p.0.room change.ensures.answer change.ensures.state
