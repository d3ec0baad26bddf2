use Rattle.std.proofs.Common.{arith}
use Rattle.salvage_tree.proofs.Walks.Names.{measuring-start, measuring-more, measured-stop, measured-end}
use Rattle.salvage_tree.proofs.names.name_length.Goals as goal

pub loop-i-init : goal.loop-i-init
loop-i-init c = measuring-start _

pub returns-then-byte-eq0 : goal.returns-then-byte-eq0
returns-then-byte-eq0 c = measured-stop _ _ c.loop-i.invariant (omega arith) c.if-byte-eq0.true

pub loop-i-preserved : goal.loop-i-preserved
loop-i-preserved c = measuring-more _ _ c.loop-i.invariant (omega arith) c.if-byte-eq0.false

pub returns : goal.returns
returns c = measured-end _ _ c.loop-i.invariant (omega arith)
