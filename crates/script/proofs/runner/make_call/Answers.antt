use mathlib.Core.Path.{sym, ◌∙◌}
use Rattle.script.proofs.Walks.Making.{look-made}
use Rattle.script.proofs.runner.make_call.Goals as goal

pub look-requires : goal.look-requires
look-requires c =
    let p = c.requires in
    (p.0, p.1, sym c.is_look.ensures ∙ c.if-is_look.true)

pub returns-then-is_look : goal.returns-then-is_look
returns-then-is_look c =
    let is-look = c.is_look in
    let if1 = c.if-is_look in
    let look = c.look in
    let p = c.requires in
    look-made _ _ _ _ _ p.1 (sym is-look.ensures ∙ if1.true) look.ensures

pub change-requires : goal.change-requires
change-requires c =
    let p = c.requires in
    let is-look = c.is_look in
    let if1 = c.if-is_look in
    (p.0, sym is-look.ensures ∙ if1.false)
