use mathlib.Core.Path.{◌≡◌, sym, ap, ◌∙◌}
use native.Mathlib.Omega.{arith}
use Rattle.journal.specs.Run.{state}
use Rattle.script.specs.Script.{op_at, encoded}
use Rattle.script.proofs.Walks.Scripts.{size-read, size_low, size-look-in-place, is-check, is-lookup, is-look-in-place, read-answer, last-look}
use Rattle.script.proofs.Walks.Making.{look-answered}
use Rattle.script.proofs.runner.look.Goals as goal

pub read-requires : goal.read-requires
read-requires c =
    let p = c.requires in
    (p.0.fits, p.0.room ∙ size-read _ _ p.0.fits (sym c.fills.ensures ∙ c.if-fills.true))

pub returns-then-fills : goal.returns-then-fills
returns-then-fills c =
    let read = c.read in
    let a = c.args in
    let f = sym c.fills.ensures ∙ c.if-fills.true in
    λ j. read.ensures ∙ sym (ap encoded (read-answer a.script.now a.at (state a.image.now j) f))

pub check-requires : goal.check-requires
check-requires c =
    let p = c.requires in
    let fills = c.fills in
    let if1 = c.if-fills in
    let if2 = c.if-script-at-eq1 in
    let a = c.args in
    p.0.room ∙ size_low a.script.now a.at (sym fills.ensures ∙ if1.false) (omega (arith, if2.true))

pub returns-then-script-at-eq1 : goal.returns-then-script-at-eq1
returns-then-script-at-eq1 c = λ j. look-answered _ j _ _ _ (is-check _ _ c.if-script-at-eq1.true) c.check.ensures

pub lookup-requires : goal.lookup-requires
lookup-requires c =
    let fills = c.fills in
    let if1 = c.if-fills in
    let if3 = c.if-script-at-eq2 in
    let a = c.args in
    let p = c.requires in
    (p.0.fits, p.0.room ∙ size_low a.script.now a.at (sym fills.ensures ∙ if1.false) (omega (arith, if3.true)))

pub returns-then-script-at-eq2 : goal.returns-then-script-at-eq2
returns-then-script-at-eq2 c = λ j. look-answered _ j _ _ _ (is-lookup _ _ c.if-script-at-eq2.true) c.lookup.ensures

pub look_in_place-requires : goal.look_in_place-requires
look_in_place-requires c =
    let fills = c.fills in
    let if1 = c.if-fills in
    let if2 = c.if-script-at-eq1 in
    let if3 = c.if-script-at-eq2 in
    let a = c.args in
    let p = c.requires in
    let op : op_at a.script.now a.at ≡ 4 = last-look a.script.now a.at p.2 (sym fills.ensures ∙ if1.false) p.1 if2.false if3.false in
    (p.0.fits, p.0.room ∙ size-look-in-place _ _ op)

pub returns : goal.returns
returns c =
    let fills = c.fills in
    let if1 = c.if-fills in
    let if2 = c.if-script-at-eq1 in
    let if3 = c.if-script-at-eq2 in
    let look-in-place = c.look_in_place in
    let a = c.args in
    let p = c.requires in
    let op : op_at a.script.now a.at ≡ 4 = last-look a.script.now a.at p.2 (sym fills.ensures ∙ if1.false) p.1 if2.false if3.false in
    λ j. look-answered _ j _ _ _ (is-look-in-place _ _ op) look-in-place.ensures
