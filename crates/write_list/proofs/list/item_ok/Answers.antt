use mathlib.Core.Path.{sym, ◌∙◌}
use native.Mathlib.Omega.{arith}
use borrow.Author.Tests.{lt-leb}
use Rattle.write_list.proofs.Laws.Items.{item, item-cut, item-rest}
use Rattle.layout.proofs.Laws.Tests.{is_false}
use Rattle.write_list.proofs.list.item_ok.Goals as goal

pub returns-then-left-lt18 : goal.returns-then-left-lt18
returns-then-left-lt18 c =
    let a = c.args in
    sym (is_false _ (λ t. let i = item a.list.now a.at t in omega (arith, i.ends, i.room)))

pub returns-then-size-left : goal.returns-then-size-left
returns-then-size-left c =
    let a = c.args in
    let get32 = c.get32-size in
    rw (c.path_length.ensures.0, get32.ensures) (sym (item-rest a.list.now a.at (omega (arith, get32.ensures))))

pub returns-else-size-left : goal.returns-else-size-left
returns-else-size-left c =
    let a = c.args in
    lt-leb _ _ c.if-size-left.false ∙ sym (item-cut a.list.now a.at (omega (arith, c.get32-size.ensures)))
