use Rattle.store.specs.Change.{refusal, after, slot_given}
use Rattle.store.specs.Walks.Targets.{Target}
use Rattle.store.proofs.change.make.Goals as goal

pub make-requires : goal.make-requires
unfolding refusal Target
make-requires c =
    let p = c.requires in
    let given = c.in-Volume.is in
    (p.0, rw given at p.1, rw given at p.2)

pub put-requires : goal.put-requires
unfolding refusal Target
put-requires c =
    let p = c.requires in
    let given = c.in-Put.is in
    (p.0, rw given at p.1, rw given at p.2)

pub returns-in-Volume : goal.returns-in-Volume
unfolding after slot_given
returns-in-Volume c = rw c.in-Volume.is (record { slot = c.make.ensures.slot; bytes = c.make.ensures.bytes })

pub returns-in-Put : goal.returns-in-Put
unfolding after slot_given
returns-in-Put c = rw c.in-Put.is (record { slot = c.put.ensures.revision; bytes = c.put.ensures.bytes })
