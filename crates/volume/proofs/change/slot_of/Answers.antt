use Rattle.volume.specs.Walks.Targets.{answered}
use Rattle.volume.proofs.change.slot_of.Goals as goal

pub returns-in-Create : goal.returns-in-Create
unfolding answered
returns-in-Create c = rw c.in-Create.is

pub returns-in-Write : goal.returns-in-Write
unfolding answered
returns-in-Write c = rw c.in-Write.is

pub returns-in-Delete : goal.returns-in-Delete
unfolding answered
returns-in-Delete c = rw c.in-Delete.is

pub returns-in-CreateDirectory : goal.returns-in-CreateDirectory
unfolding answered
returns-in-CreateDirectory c = rw c.in-CreateDirectory.is

pub returns-in-DeleteDirectory : goal.returns-in-DeleteDirectory
unfolding answered
returns-in-DeleteDirectory c = rw c.in-DeleteDirectory.is

pub returns-in-SetAttributes : goal.returns-in-SetAttributes
unfolding answered
returns-in-SetAttributes c = rw c.in-SetAttributes.is

pub returns-in-ClearAttributes : goal.returns-in-ClearAttributes
unfolding answered
returns-in-ClearAttributes c = rw c.in-ClearAttributes.is

pub returns-in-ClearFlags : goal.returns-in-ClearFlags
unfolding answered
returns-in-ClearFlags c = rw c.in-ClearFlags.is

pub returns-in-Shorten : goal.returns-in-Shorten
unfolding answered
returns-in-Shorten c = rw c.in-Shorten.is

pub returns-in-Replace : goal.returns-in-Replace
unfolding answered
returns-in-Replace c = rw c.in-Replace.is

pub returns-in-Move : goal.returns-in-Move
unfolding answered
returns-in-Move c = rw c.in-Move.is
