use Rattle.script.specs.Script.{entry_head}
use Rattle.script.proofs.Walks.Encoding.{length-numbers, four-groups}
use Rattle.script.proofs.overview.put_entry.Goals as goal

pub returns : goal.returns
unfolding entry_head
returns c =
    let a = c.args in
    let p = c.places.ensures in
    let h = c.chains.ensures in
    let t = c.times.ensures in
    let o = c.owners.ensures in
    rw (c.put_group-4.ensures, c.put_group-3.ensures, c.put_group-2.ensures, c.put_group.ensures, p.0, p.1, p.2, p.3, h.0, h.1, h.2, h.3, t.0, t.1, t.2, t.3, o.0, o.1, o.2, o.3)
    (four-groups a.head.now _ _ _ _ c.requires (length-numbers _ _ _ _) (length-numbers _ _ _ _) (length-numbers _ _ _ _) (length-numbers _ _ _ _))
