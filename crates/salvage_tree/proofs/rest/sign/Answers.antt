use Rattle.salvage_tree.proofs.Walks.Rest.{signed-left, signed-set}
use Rattle.salvage_tree.proofs.rest.sign.Goals as goal

pub returns-then-starts_with : goal.returns-then-starts_with
returns-then-starts_with c = signed-left _ _ c.starts_with.ensures.value c.if-starts_with.true

pub returns : goal.returns
returns c = rw c.copy.ensures (signed-set c.args.image.now _ c.starts_with.ensures.value c.if-starts_with.false)
