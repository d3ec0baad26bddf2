use mathlib.Core.Path.{sym, ◌∙◌}
use native.Mathlib.Omega.{arith}
use Rattle.script.specs.Script.{op_at}
use Rattle.script.proofs.Walks.Scripts.{room-show, head_small}
use Rattle.script.proofs.items.answer_size.Goals as goal

pub overflow_add-result : goal.overflow_add-result
overflow_add-result c =
    let a = c.args in
    let h = head_small (op_at a.script.now a.at) c.head_size.result c.head_size.ensures in
    omega (arith, h)

pub returns-then-shows : goal.returns-then-shows
returns-then-shows c =
    let a = c.args in
    let t = sym c.shows.ensures ∙ c.if-shows.true in
    rw (c.head_size.ensures, c.get32.ensures) (sym (room-show a.script.now a.at c.requires t))

pub plain_size-requires : goal.plain_size-requires
plain_size-requires c = (c.requires, sym c.shows.ensures ∙ c.if-shows.false)
