use Rattle.std.proofs.Common.{rules, sym, ◌∙◌}
use Rattle.std.proofs.lemmas.Bool.{false≢true}
use Rattle.salvage_tree.proofs.Walks.Blocks.{row-size, row-not, row_typed}
use Rattle.salvage_tree.proofs.blocks.row_right.Goals as goal
use Rattle.salvage_tree.proofs.blocks.row_right.Goals.{then-contains, else-contains}

pub returns-then-row_good : goal.returns-then-row_good
returns-then-row_good c =
    elim c.if-contains.branch [
      | then-contains w ↦ row_typed _ _ _ _ _ (search rules) (search rules) _ w.row_good.ensures (sym w.value-is ∙ c.if-row_good.true) _ c.type_at.ensures
      | else-contains w ↦ absurd (false≢true (sym w.if-contains.false ∙ sym w.value-is ∙ c.if-row_good.true))
    ]

pub returns-else-row_good : goal.returns-else-row_good
returns-else-row_good c =
    elim c.if-contains.branch [
      | then-contains w ↦ rw c.if-row_good.false (row-not _ _ _ _ _ (search rules) (search rules) _ w.row_good.ensures (sym w.value-is ∙ c.if-row_good.false))
      | else-contains w ↦ rw (w.value-is ∙ w.if-contains.false) (row-size _ _ _ _ _ (search rules))
    ]
