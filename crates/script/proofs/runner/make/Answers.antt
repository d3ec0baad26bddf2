use mathlib.Core.Path.{sym, ◌∙◌}
use Rattle.script.proofs.Walks.Scripts.{room-is-show}
use Rattle.script.proofs.Walks.Making.{show-item}
use Rattle.script.proofs.runner.make.Goals as goal

pub show-requires : goal.show-requires
show-requires c =
    let p = c.requires in
    let a = c.args in
    (p.0.fits, p.0.room ∙ room-is-show a.script.now a.at (sym c.shows.ensures ∙ c.if-shows.true))

pub returns-then-shows : goal.returns-then-shows
returns-then-shows c =
    let a = c.args in
    let t = sym c.shows.ensures ∙ c.if-shows.true in
    show-item a.image.now a.journal.now a.script.now a.at _ t c.show.ensures

pub make_plain-requires : goal.make_plain-requires
make_plain-requires c =
    let p = c.requires in
    (p.0, p.1, sym c.shows.ensures ∙ c.if-shows.false)
