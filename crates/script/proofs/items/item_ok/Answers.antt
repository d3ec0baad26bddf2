use Rattle.std.proofs.Common.{sym, ◌∙◌, arith}
use borrow.Author.Tests.{le-leb, lt-leb}
use Rattle.script.proofs.Walks.Scripts.{item-cut, item-low, item-last}
use Rattle.script.proofs.items.item_ok.Goals as goal
use Rattle.script.proofs.items.item_ok.Goals.{then-left-lt33-via-then-left-lt33, then-left-lt33-via-else-left-lt33+then-left-item_size}

pub returns-then-left-lt33 : goal.returns-then-left-lt33
returns-then-left-lt33 c =
    let a = c.args in
    elim c.then-left-lt33.branch [
      | then-left-lt33-via-then-left-lt33 w ↦ sym (item-cut a.script.now a.at (omega arith))
      | then-left-lt33-via-else-left-lt33+then-left-item_size w ↦ sym (item-cut a.script.now a.at (omega arith))
    ]

pub returns-in-1-to-28 : goal.returns-in-1-to-28
returns-in-1-to-28 c = let a = c.args in sym (item-last a.script.now a.at (omega arith) (omega arith) ∙ le-leb _ _ (omega arith))

pub returns-in_default : goal.returns-in_default
returns-in_default c = let a = c.args in sym (item-low a.script.now a.at (omega arith) (omega arith))

pub returns-in_default-2 : goal.returns-in_default-2
returns-in_default-2 c = let a = c.args in sym (item-last a.script.now a.at (omega arith) (omega arith) ∙ lt-leb _ _ (omega arith))
