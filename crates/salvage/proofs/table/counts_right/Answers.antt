use Rattle.salvage.proofs.Walks.Table.{counts-wrong, counts-are}
use Rattle.salvage.proofs.table.counts_right.Goals as goal

pub returns-then-header_number-used : goal.returns-then-header_number-used
returns-then-header_number-used c =
    counts-are c.args.image.now c.args.n c.args.used c.requires.0 c.requires.1 _ c.header_number.ensures c.if-header_number-used.true _ c.header_number-then-header_number-used.ensures

pub returns-else-header_number-used : goal.returns-else-header_number-used
returns-else-header_number-used c = counts-wrong c.args.image.now c.args.n c.args.used c.requires.0 c.requires.1 _ c.header_number.ensures c.if-header_number-used.false
