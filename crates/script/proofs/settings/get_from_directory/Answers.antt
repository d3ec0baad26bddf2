use mathlib.Core.Path.{◌∙◌}
use native.Mathlib.Omega.{arith}
use Rattle.script.proofs.Walks.Scripts.{which-22, which-latest}
use Rattle.script.proofs.settings.get_from_directory.Goals as goal

pub returns-then-script-at-eq22 : goal.returns-then-script-at-eq22
returns-then-script-at-eq22 c =
    let a = c.args in
    c.get_in.ensures ∙ rw (c.directory_of-directory.ensures, c.serial_of-serial.ensures, c.revision_of-revision.ensures, which-22 a.script.now a.at c.if-script-at-eq22.true)

pub returns : goal.returns
returns c =
    let a = c.args in
    let p = c.requires in
    c.get_latest_in.ensures ∙ rw (c.directory_of-directory.ensures, c.serial_of-serial.ensures, which-latest a.script.now a.at (λ e. omega (arith, e, p.1)) c.if-script-at-eq22.false)
