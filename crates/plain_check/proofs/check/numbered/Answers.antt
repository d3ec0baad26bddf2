use Rattle.plain_check.proofs.Walks.Stages.{numbered-all}
use Rattle.plain_check.proofs.check.numbered.Goals as goal

-- src/check.rt:116:1
pub returns : goal.returns
returns c = numbered-all _ _ c.requires _ c.table_blocks-t.ensures _ _ _ c.number.ensures.0 c.number-2.ensures.0 c.number-3.ensures.0
