use Rattle.std.proofs.Common.{rules, inl, inr, arith}
use Rattle.salvage_tree.proofs.Walks.Blocks.{other_row, other-all, other-sure}
use Rattle.salvage_tree.proofs.blocks.choose_other.Goals as goal
use Rattle.salvage_tree.proofs.blocks.choose_other.Goals.{else-sure-via-then-sure+else-contains, else-sure-via-else-sure}

pub row_right-requires : goal.row_right-requires
row_right-requires c = c.requires.0

pub put_row-requires : goal.put_row-requires
put_row-requires c = let f = c.row_right.ensures.below c.if-row_right.true in (f.1, c.requires.1.size, omega (arith, f, c.requires.0.shape.high))

pub returns-then-row_right : goal.returns-then-row_right
returns-then-row_right c = other_row _ _ _ _ _ _ _ c.row_right.ensures c.if-row_right.true _ (omega (arith, c.requires.1.size)) c.put_row.ensures

pub returns-then-contains : goal.returns-then-contains
returns-then-contains c = other-sure _ _ _ _ _ _ _ _ c.requires.1 _ c.row_right.ensures c.if-row_right.false c.if-sure.true (search rules) (search rules)

pub returns-else-sure : goal.returns-else-sure
returns-else-sure c =
    elim c.else-sure.branch [
      | else-sure-via-then-sure+else-contains w ↦ other-all _ _ _ _ _ _ _ _ c.requires.1 _ c.row_right.ensures c.if-row_right.false (inr (search rules))
      | else-sure-via-else-sure w ↦ other-all _ _ _ _ _ _ _ _ c.requires.1 _ c.row_right.ensures c.if-row_right.false (inl w.if-sure.false)
    ]
