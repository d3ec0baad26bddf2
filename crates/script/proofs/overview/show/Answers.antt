use mathlib.Core.Path.{◌∙◌}
use borrow.Author.Tests.{eq-eqb, ne_eqb}
use Rattle.journal.specs.Run.{look_answer}
use Rattle.script.proofs.Walks.Scripts.{size-show, shows-volume, shows-entry, shows-settings}
use Rattle.script.proofs.overview.show.Goals as goal

pub info-requires : goal.info-requires
info-requires c =
    let a = c.args in
    let p = c.requires in
    (p.0, p.1 ∙ size-show a.script.now a.at p.0 ∙ rw (eq-eqb _ 16 c.if-script-at-eq16.true))

pub returns-then-script-at-eq16 : goal.returns-then-script-at-eq16
unfolding look_answer
returns-then-script-at-eq16 c =
    let a = c.args in
    c.info.ensures ∙ rw (shows-volume a.script.now a.at c.if-script-at-eq16.true)

pub entry-requires : goal.entry-requires
entry-requires c =
    let a = c.args in
    let p = c.requires in
    (p.0, p.1 ∙ size-show a.script.now a.at p.0 ∙ rw (ne_eqb _ 16 c.if-script-at-eq16.false, eq-eqb _ 17 c.if-script-at-eq17.true))

pub returns-then-script-at-eq17 : goal.returns-then-script-at-eq17
unfolding look_answer
returns-then-script-at-eq17 c =
    let a = c.args in
    c.entry.ensures ∙ rw (shows-entry a.script.now a.at c.if-script-at-eq17.true)

pub get-requires : goal.get-requires
get-requires c =
    let a = c.args in
    let p = c.requires in
    (p.0, p.1 ∙ size-show a.script.now a.at p.0 ∙ rw (ne_eqb _ 16 c.if-script-at-eq16.false, ne_eqb _ 17 c.if-script-at-eq17.false))

pub returns : goal.returns
unfolding look_answer
returns c =
    let a = c.args in
    c.get.ensures ∙ rw (shows-settings a.script.now a.at c.if-script-at-eq16.false c.if-script-at-eq17.false)
