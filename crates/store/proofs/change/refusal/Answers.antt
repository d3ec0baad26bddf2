use Rattle.volume.specs.Asked.{asked}
use Rattle.store.proofs.Walks.Prepares.{prepared-volume, prepared-put}
use Rattle.store.proofs.change.refusal.Goals as goal

pub returns-in-Volume : goal.returns-in-Volume
returns-in-Volume c =
    let a = c.args in
    rw c.in-Volume.is (prepared-volume a.image.now (asked c.in-Volume.c a.path.now a.bytes.now) c.refusal.result c.refusal.ensures)

pub returns-in-Put : goal.returns-in-Put
returns-in-Put c =
    let a = c.args in
    rw c.in-Put.is (prepared-put a.image.now a.directory.now a.path.now c.in-Put.time a.bytes.now c.put_refusal.result c.put_refusal.ensures)
