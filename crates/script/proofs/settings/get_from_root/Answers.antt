use mathlib.Core.Path.{◌∙◌}
use native.Mathlib.Omega.{arith}
use Rattle.script.proofs.Walks.Scripts.{which-19, which-latest}
use Rattle.script.proofs.settings.get_from_root.Goals as goal

pub returns-then-script-at-eq19 : goal.returns-then-script-at-eq19
returns-then-script-at-eq19 c =
    let a = c.args in
    c.get.ensures ∙ rw (c.name_of-serial.ensures, c.revision_of-revision.ensures, which-19 a.script.now a.at c.if-script-at-eq19.true)

pub returns : goal.returns
returns c =
    let a = c.args in
    let p = c.requires in
    c.get_latest.ensures ∙ rw (c.name_of-serial.ensures, which-latest a.script.now a.at c.if-script-at-eq19.false (λ e. omega (arith, e, p.1)))
