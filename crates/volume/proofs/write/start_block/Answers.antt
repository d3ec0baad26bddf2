use Rattle.volume.proofs.Walks.Plan.{start-new, start-old}
use Rattle.volume.proofs.write.start_block.Goals as goal

pub returns-then-held-eq0 : goal.returns-then-held-eq0
returns-then-held-eq0 c = start-new _ _ _ c.if-held-eq0.true

pub returns-else-held-eq0 : goal.returns-else-held-eq0
returns-else-held-eq0 c = start-old _ _ _ c.if-held-eq0.false
