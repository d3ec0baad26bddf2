use Rattle.salvage.proofs.Walks.Table.{table-put}
use Rattle.salvage.proofs.table.put_table.Goals as goal

pub returns : goal.returns
returns c =
    let free-entries = c.free_entries in
    let put-ones = c.put_ones in
    let a = c.args in
    let p = c.requires in
    table-put a.image.now a.marks.now a.t a.n _ _ p.shape p.table put-ones.ensures free-entries.ensures
