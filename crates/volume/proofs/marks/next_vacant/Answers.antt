use Rattle.volume.proofs.Walks.Vacant.{vacant-first}
use Rattle.volume.proofs.marks.next_vacant.Goals as goal

pub returns : goal.returns
returns c =
    let p = c.requires in
    rw c.min.ensures (vacant-first _ _ _ _ _ _ p.1 p.2 c.next_free-b.ensures c.next_on_chain-c.ensures)
