use Rattle.std.proofs.Common.{sym, ◌∙◌, arith}
use Rattle.salvage.specs.Salvage.{one_at}
use Rattle.salvage.proofs.Walks.Table.{turn_last, turn_more}
use Rattle.salvage.proofs.table.put_ones.Goals as goal

pub loop-b-preserved : goal.loop-b-preserved
loop-b-preserved c =
    let l = c.loop-b in
    (omega arith, l.invariant.1 ∙ turn_more one_at l.image l.b _ _ (omega arith) _ c.put_one.ensures)

pub returns : goal.returns
returns c = let l = c.loop-b in sym (l.invariant.1 ∙ turn_last one_at l.image l.b _ (omega arith))
