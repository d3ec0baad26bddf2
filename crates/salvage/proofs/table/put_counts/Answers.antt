use Rattle.std.proofs.Common.{sym, ◌∙◌}
use Rattle.salvage.proofs.Walks.Table.{counts-stay, counts-set}
use Rattle.salvage.proofs.table.put_counts.Goals as goal

pub returns-then-not-counts_right : goal.returns-then-not-counts_right
returns-then-not-counts_right c =
    counts-set c.args.image.now c.args.n _ c.requires c.count_used-used.ensures.0 (sym c.if-not-counts_right.true ∙ c.counts_right.ensures) _ c.set_counts.ensures

pub returns-else-not-counts_right : goal.returns-else-not-counts_right
returns-else-not-counts_right c =
    counts-stay c.args.image.now c.args.n _ c.requires c.count_used-used.ensures.0 (sym c.if-not-counts_right.false ∙ c.counts_right.ensures)
