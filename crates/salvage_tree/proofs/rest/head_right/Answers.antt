use Rattle.std.proofs.Common.{sym, ◌∙◌}
use Rattle.salvage_tree.proofs.Walks.Rest.{head-bad, head-counted, err-refused, ok-accepted}
use Rattle.salvage_tree.proofs.rest.head_right.Goals as goal

pub returns-then-is_err : goal.returns-then-is_err
returns-then-is_err c = head-bad _ _ c.requires (λ z. err-refused _ (sym c.is_err.ensures.value ∙ c.if-is_err.true) (c.head.ensures ∙ z))

pub returns : goal.returns
returns c = head-counted _ _ c.requires (sym c.head.ensures ∙ ok-accepted _ (sym c.is_err.ensures.value ∙ c.if-is_err.false)) _ c.counts_right.ensures
