use Rattle.std.proofs.Common.{sym, ◌∙◌, arith}
use Rattle.salvage_tree.proofs.Walks.Blocks.{chose-other, chose-run}
use Rattle.salvage_tree.proofs.blocks.choose.Goals as goal
use Rattle.salvage_tree.proofs.blocks.choose.Goals.{else-d-ge1-via-then-d-ge1+then-d-k+else-ends_in, else-d-ge1-via-then-d-ge1+else-d-k, else-d-ge1-via-else-d-ge1}

pub run-k-requires : goal.run-k-requires
run-k-requires c = c.requires

pub ends_in-requires : goal.ends_in-requires
ends_in-requires c = (c.requires.0.shape, c.run-k.ensures.below _ (omega arith))

pub choose_other-requires : goal.choose_other-requires
choose_other-requires c = (c.requires.0, c.run-k.ensures)

pub returns-then-ends_in : goal.returns-then-ends_in
returns-then-ends_in c = chose-run _ _ _ _ _ _ _ _ c.run-k.ensures (omega arith) (omega arith) (sym c.ends_in.ensures ∙ c.if-ends_in.true)

pub returns : goal.returns
returns c =
    elim c.else-d-ge1.branch [
      | else-d-ge1-via-then-d-ge1+then-d-k+else-ends_in w ↦ chose-other _ _ _ _ _ _ _ _ c.run-k.ensures _ _ (λ h l. sym w.ends_in.ensures ∙ w.if-ends_in.false) c.choose_other.ensures
      | else-d-ge1-via-then-d-ge1+else-d-k w ↦ chose-other _ _ _ _ _ _ _ _ c.run-k.ensures _ _ (λ h l. absurd (omega arith)) c.choose_other.ensures
      | else-d-ge1-via-else-d-ge1 w ↦ chose-other _ _ _ _ _ _ _ _ c.run-k.ensures _ _ (λ h l. absurd (omega arith)) c.choose_other.ensures
    ]
