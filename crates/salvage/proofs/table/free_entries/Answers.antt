use Rattle.std.proofs.Common.{arith}
use Rattle.salvage.proofs.Walks.Table.{freeing-end, freeing-turn}
use Rattle.salvage.proofs.table.free_entries.Goals as goal

pub loop-b-preserved : goal.loop-b-preserved
loop-b-preserved c = freeing-turn c.loop-b.invariant _ (omega arith) _ (omega arith) c.free_entry.ensures

pub returns : goal.returns
returns c = freeing-end c.loop-b.invariant (omega arith)
