use Rattle.script.specs.Script.{volume_head}
use Rattle.script.proofs.Walks.Encoding.{length-numbers, two-groups}
use Rattle.script.proofs.overview.put_volume.Goals as goal

pub returns : goal.returns
unfolding volume_head
returns c =
    let a = c.args in
    rw (c.put_group-2.ensures, c.put_group.ensures)
    (two-groups a.head.now _ _ c.requires (length-numbers _ _ _ _) (length-numbers _ _ _ _))
