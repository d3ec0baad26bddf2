use mathlib.Core.Path.{sym, ap, ◌∙◌}
use lib.ListN.{length}
use Rattle.store.specs.Get.{GetAnswer}
use Rattle.journal.specs.Run.{got}
use Rattle.script.proofs.Walks.Scripts.{length-data, get-placed, get-rooted}
use Rattle.script.proofs.settings.get_into.Goals as goal

pub copy-requires : goal.copy-requires
copy-requires c =
    let p = c.requires in
    ap length c.data_of.ensures ∙ length-data _ _ p.0 ∙ sym p.1

pub get_from_directory-requires : goal.get_from_directory-requires
get_from_directory-requires c = (c.requires.0, c.if-script-at-ge22.true)

pub returns-then-script-at-ge22 : goal.returns-then-script-at-ge22
returns-then-script-at-ge22 c =
    let a = c.args in
    ap (λ (x : GetAnswer). got x) c.get_from_directory.ensures ∙ rw (c.copy.ensures, c.data_of.ensures) (sym (get-placed a.script.now a.at a.image.now c.if-script-at-ge22.true))

pub get_from_root-requires : goal.get_from_root-requires
get_from_root-requires c = (c.requires.0, c.if-script-at-ge22.false)

pub returns : goal.returns
returns c =
    let a = c.args in
    ap (λ (x : GetAnswer). got x) c.get_from_root.ensures ∙ rw (c.copy.ensures, c.data_of.ensures) (sym (get-rooted a.script.now a.at a.image.now c.if-script-at-ge22.false))
