use Rattle.std.proofs.Common.{sym, ◌∙◌, arith}
use Rattle.layout.proofs.Walks.Stages.{stage1-shape}
use Rattle.salvage_tree.proofs.Walks.Counts.{refusal-1, refusal-3, refusal-9, refusal-0}
use Rattle.salvage_tree.proofs.salvage_tree.refusal.Goals as goal

pub returns-then-not-sized : goal.returns-then-not-sized
returns-then-not-sized c = refusal-1 _ _ _ c.sized.ensures c.if-not-sized.true

pub other_length-requires : goal.other_length-requires
other_length-requires c = stage1-shape _ (sym (sym c.sized.ensures ∙ c.if-not-sized.false))

pub returns-then-other_length : goal.returns-then-other_length
returns-then-other_length c = refusal-3 _ _ _ c.sized.ensures c.if-not-sized.false _ c.other_length.ensures c.if-other_length.true

pub returns-then-size-n : goal.returns-then-size-n
returns-then-size-n c = refusal-9 _ _ _ c.sized.ensures c.if-not-sized.false _ c.other_length.ensures c.if-other_length.false (omega arith)

pub returns : goal.returns
returns c = refusal-0 _ _ _ c.sized.ensures c.if-not-sized.false _ c.other_length.ensures c.if-other_length.false (omega arith)
