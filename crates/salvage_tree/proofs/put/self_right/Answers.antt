use Rattle.salvage_tree.proofs.Walks.Puts.{self_type, self-self, self-parent, self-size, self-field}
use Rattle.salvage_tree.proofs.put.self_right.Goals as goal
use Rattle.salvage_tree.proofs.put.self_right.Goals.{then-type_at-ne1-via-then-type_at-ne1, then-type_at-ne1-via-else-type_at-ne1+then-number_at-b, then-type_at-ne1-via-else-type_at-ne1+else-number_at-b+then-number_at-parent, then-type_at-ne1-via-else-type_at-ne1+else-number_at-b+else-number_at-parent+then-number_at-d}

pub returns-then-type_at-ne1 : goal.returns-then-type_at-ne1
returns-then-type_at-ne1 c =
    let t = c.type_at.ensures in
    elim c.then-type_at-ne1.branch [
      | then-type_at-ne1-via-then-type_at-ne1 w ↦ self_type _ _ _ _ _ _ t w.if-type_at-ne1.true
      | then-type_at-ne1-via-else-type_at-ne1+then-number_at-b w ↦ self-self _ _ _ _ _ _ t w.if-type_at-ne1.false _ w.number_at.ensures w.if-number_at-b.true
      | then-type_at-ne1-via-else-type_at-ne1+else-number_at-b+then-number_at-parent w ↦
          self-parent _ _ _ _ _ _ t w.if-type_at-ne1.false _ w.number_at.ensures w.if-number_at-b.false _ w.number_at-else-number_at-b.ensures w.if-number_at-parent.true
      | then-type_at-ne1-via-else-type_at-ne1+else-number_at-b+else-number_at-parent+then-number_at-d w ↦
          self-size _ _ _ _ _ _ t w.if-type_at-ne1.false _ w.number_at.ensures w.if-number_at-b.false _ w.number_at-else-number_at-b.ensures w.if-number_at-parent.false _ w.number_at-else-number_at-parent.ensures w.if-number_at-d.true
    ]

pub returns : goal.returns
returns c = self-field _ _ _ _ _ _ c.type_at.ensures c.if-type_at-ne1.false _ c.number_at.ensures c.if-number_at-b.false _ c.number_at-else-number_at-b.ensures c.if-number_at-parent.false _ c.number_at-else-number_at-parent.ensures c.if-number_at-d.false _ c.has_field.ensures
