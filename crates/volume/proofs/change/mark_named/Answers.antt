use mathlib.Core.Path.{◌∙◌}
use native.Mathlib.Omega.{arith}
use Rattle.layout.proofs.Walks.Looks.{located-block}
use Rattle.volume.specs.Change.{refusal, named}
use Rattle.volume.specs.Flags.{clear_flags_named}
use Rattle.volume.specs.Walks.Targets.{Target}
use Rattle.volume.proofs.Laws.Places.{write-at, create-directory-given}
use Rattle.volume.proofs.Walks.Create.{create-marked}
use Rattle.volume.proofs.Walks.CreateDirectory.{create-directory-named}
use Rattle.volume.proofs.Walks.Delete.{file-droppable, dropped-named}
use Rattle.volume.proofs.Walks.DeleteDirectory.{delete-directory-given, child-droppable}
use Rattle.volume.proofs.Walks.Move.{move-marked}
use Rattle.volume.proofs.change.mark_named.Goals as goal

pub mark-requires : goal.mark-requires
unfolding Target
mark-requires c =
    let t = rw c.in-Create.is at c.requires.2 in
    omega (arith, t.inside, c.requires.3)

pub write_at_named-requires : goal.write_at_named-requires
unfolding refusal Target
write_at_named-requires c =
    let r = rw c.in-Write.is at c.requires.1 in
    let t = rw c.in-Write.is at c.requires.2 in
    let y = write-at _ _ _ _ r in
    (c.requires.0, record { path = c.args.path.now; accepted = y.0; located = t }, rw t.place y.1, c.requires.3)

pub drop_named-requires : goal.drop_named-requires
unfolding refusal Target
drop_named-requires c =
    let r = rw c.in-Delete.is at c.requires.1 in
    let t = rw c.in-Delete.is at c.requires.2 in
    (file-droppable t c.requires.0 r, c.requires.3)

pub create_directory_named-requires : goal.create_directory_named-requires
unfolding refusal Target
create_directory_named-requires c =
    let r = rw c.in-CreateDirectory.is at c.requires.1 in
    let t = rw c.in-CreateDirectory.is at c.requires.2 in
    (c.requires.0, t.inside, (create-directory-given _ _ _ _ _ r).room, c.requires.3)

pub drop_named-requires-in-DeleteDirectory : goal.drop_named-requires-in-DeleteDirectory
unfolding refusal Target
drop_named-requires-in-DeleteDirectory c =
    let r = rw c.in-DeleteDirectory.is at c.requires.1 in
    let t = rw c.in-DeleteDirectory.is at c.requires.2 in
    (child-droppable _ _ (delete-directory-given _ _ r) t c.requires.0, c.requires.3)

pub set_attributes_named-requires : goal.set_attributes_named-requires
unfolding refusal Target
set_attributes_named-requires c =
    let r = rw c.in-SetAttributes.is at c.requires.1 in
    let t = rw c.in-SetAttributes.is at c.requires.2 in
    (c.requires.0, record { path = c.args.path.now; accepted = r; located = t }, c.requires.3)

pub clear_attributes_named-requires : goal.clear_attributes_named-requires
unfolding refusal Target
clear_attributes_named-requires c =
    let r = rw c.in-ClearAttributes.is at c.requires.1 in
    let t = rw c.in-ClearAttributes.is at c.requires.2 in
    (c.requires.0, record { path = c.args.path.now; accepted = r; located = t }, c.requires.3)

pub mark-requires-in-ClearFlags : goal.mark-requires-in-ClearFlags
unfolding Target
mark-requires-in-ClearFlags c =
    let t = rw c.in-ClearFlags.is at c.requires.2 in
    omega (arith, t.inside, c.requires.3)

pub shorten_named-requires : goal.shorten_named-requires
unfolding refusal Target
shorten_named-requires c =
    let r = rw c.in-Shorten.is at c.requires.1 in
    let t = rw c.in-Shorten.is at c.requires.2 in
    (c.requires.0, record { path = c.args.path.now; accepted = r; located = t }, c.requires.3)

pub replace_named-requires : goal.replace_named-requires
unfolding refusal Target
replace_named-requires c =
    let r = rw c.in-Replace.is at c.requires.1 in
    let t = rw c.in-Replace.is at c.requires.2 in
    (c.requires.0, record { path = c.args.path.now; accepted = r; located = t }, c.requires.3)

pub move_named-requires : goal.move_named-requires
unfolding Target
move_named-requires c =
    let p = c.requires in
    let t = rw c.in-Move.is at p.2 in
    (omega (arith, t.old-inside, p.3), omega (arith, t.inside, p.3))

pub returns-in-Create : goal.returns-in-Create
unfolding named Target
returns-in-Create c =
    let t = rw c.in-Create.is at c.requires.2 in
    rw c.in-Create.is (c.mark.ensures ∙ create-marked t _)

pub returns-in-Write : goal.returns-in-Write
unfolding named Target
returns-in-Write c =
    let t = rw c.in-Write.is at c.requires.2 in
    rw c.in-Write.is (c.write_at_named.ensures ∙ rw t.place)

pub returns-in-Delete : goal.returns-in-Delete
unfolding named Target
returns-in-Delete c =
    let t = rw c.in-Delete.is at c.requires.2 in
    rw c.in-Delete.is (c.drop_named.ensures ∙ dropped-named t _)

pub returns-in-CreateDirectory : goal.returns-in-CreateDirectory
unfolding named Target
returns-in-CreateDirectory c =
    let t = rw c.in-CreateDirectory.is at c.requires.2 in
    rw c.in-CreateDirectory.is (c.create_directory_named.ensures ∙ create-directory-named t _ _)

pub returns-in-DeleteDirectory : goal.returns-in-DeleteDirectory
unfolding named Target
returns-in-DeleteDirectory c =
    let t = rw c.in-DeleteDirectory.is at c.requires.2 in
    rw c.in-DeleteDirectory.is (c.drop_named-in-DeleteDirectory.ensures ∙ dropped-named t _)

pub returns-in-SetAttributes : goal.returns-in-SetAttributes
unfolding named Target
returns-in-SetAttributes c =
    let t = rw c.in-SetAttributes.is at c.requires.2 in
    rw c.in-SetAttributes.is (c.set_attributes_named.ensures ∙ rw t.place)

pub returns-in-ClearAttributes : goal.returns-in-ClearAttributes
unfolding named Target
returns-in-ClearAttributes c =
    let t = rw c.in-ClearAttributes.is at c.requires.2 in
    rw c.in-ClearAttributes.is (c.clear_attributes_named.ensures ∙ rw t.place)

pub returns-in-ClearFlags : goal.returns-in-ClearFlags
unfolding named Target clear_flags_named
returns-in-ClearFlags c =
    let t = rw c.in-ClearFlags.is at c.requires.2 in
    rw c.in-ClearFlags.is (c.mark-in-ClearFlags.ensures ∙ rw (located-block t))

pub returns-in-Shorten : goal.returns-in-Shorten
unfolding named Target
returns-in-Shorten c =
    let t = rw c.in-Shorten.is at c.requires.2 in
    rw c.in-Shorten.is (c.shorten_named.ensures ∙ rw t.place)

pub returns-in-Replace : goal.returns-in-Replace
unfolding named Target
returns-in-Replace c =
    let t = rw c.in-Replace.is at c.requires.2 in
    rw c.in-Replace.is (c.replace_named.ensures ∙ rw t.place)

pub returns-in-Move : goal.returns-in-Move
unfolding named Target
returns-in-Move c =
    let t = rw c.in-Move.is at c.requires.2 in
    rw c.in-Move.is (c.move_named.ensures ∙ move-marked t _)
