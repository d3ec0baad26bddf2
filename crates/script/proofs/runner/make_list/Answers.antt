use Rattle.script.proofs.Walks.Making.{list-item}
use Rattle.script.proofs.runner.make_list.Goals as goal

pub returns : goal.returns
returns c =
    let p = c.requires in
    list-item _ _ _ _ _ _ _ _ _ _ p.1 p.2 c.data_of-list.ensures c.write_list-w.ensures (rw c.outcome.ensures at c.put_numbers.ensures)
