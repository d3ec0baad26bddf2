use Rattle.store.specs.Change.{refusal, named}
use Rattle.store.specs.Walks.Targets.{Target}
use Rattle.store.proofs.change.mark_named.Goals as goal

pub mark_named-requires : goal.mark_named-requires
unfolding refusal Target
mark_named-requires c =
    let p = c.requires in
    let given = c.in-Volume.is in
    (p.0, rw given at p.1, rw given at p.2, p.3)

pub put_named-requires : goal.put_named-requires
unfolding refusal Target
put_named-requires c =
    let p = c.requires in
    let given = c.in-Put.is in
    (p.0, rw given at p.1, rw given at p.2, p.3)

pub returns-in-Volume : goal.returns-in-Volume
unfolding named
returns-in-Volume c = rw c.in-Volume.is c.mark_named.ensures

pub returns-in-Put : goal.returns-in-Put
unfolding named
returns-in-Put c = rw c.in-Put.is c.put_named.ensures
