use Rattle.std.proofs.Common.{arith}
use Rattle.salvage.proofs.Walks.Claims.{walking_start, walking-more, walked-stuck, walked_all}
use Rattle.salvage.proofs.chains.walk.Goals as goal

pub loop-met-init : goal.loop-met-init
loop-met-init c = walking_start _ _ _ _

pub returns-then-not-is_good : goal.returns-then-not-is_good
returns-then-not-is_good c = walked-stuck _ _ _ _ _ _ _ c.loop-met.invariant _ (omega arith) c.if-not-is_good.ensures

pub loop-met-preserved : goal.loop-met-preserved
loop-met-preserved c =
    walking-more _ _ _ _ _ _ _ c.loop-met.invariant _ c.if-not-is_good.ensures (omega arith) c.entry-b.ensures

pub returns : goal.returns
returns c = walked_all _ _ _ _ _ _ _ c.loop-met.invariant _ (omega arith)
