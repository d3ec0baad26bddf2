use mathlib.Core.Path.{◌∙◌}
use native.Mathlib.Omega.{arith}
use Rattle.layout.proofs.Walks.Shapes.{sound-shape}
use Rattle.volume.specs.Change.{refusal, after}
use Rattle.volume.specs.Flags.{clear_flags_at}
use Rattle.volume.specs.Walks.Targets.{Target}
use Rattle.volume.proofs.Laws.Places.{create-given, write-at}
use Rattle.volume.proofs.Walks.Delete.{file-droppable, dropped-image}
use Rattle.volume.proofs.Walks.DeleteDirectory.{delete-directory-given, child-droppable}
use Rattle.volume.proofs.Laws.Moved.{move-given}
use Rattle.volume.proofs.Walks.Move.{old-within, new-within, move-written}
use Rattle.volume.proofs.change.apply.Goals as goal

pub create_at-requires : goal.create_at-requires
unfolding refusal Target
create_at-requires c =
    let r = rw c.in-Create.is at c.requires.1 in
    let t = rw c.in-Create.is at c.requires.2 in
    (c.requires.0, (create-given _ _ _ _ r).good, t)

pub write_at-requires : goal.write_at-requires
unfolding refusal Target
write_at-requires c =
    let r = rw c.in-Write.is at c.requires.1 in
    let t = rw c.in-Write.is at c.requires.2 in
    let y = write-at _ _ _ _ r in
    (c.requires.0, record { path = c.args.path.now; accepted = y.0; located = t }, rw t.place y.1)

pub drop_entry-requires : goal.drop_entry-requires
unfolding refusal Target
drop_entry-requires c =
    let r = rw c.in-Delete.is at c.requires.1 in
    let t = rw c.in-Delete.is at c.requires.2 in
    file-droppable t c.requires.0 r

pub create_directory-requires : goal.create_directory-requires
unfolding refusal Target
create_directory-requires c =
    let r = rw c.in-CreateDirectory.is at c.requires.1 in
    let t = rw c.in-CreateDirectory.is at c.requires.2 in
    (c.requires.0, r, t)

pub drop_entry-requires-in-DeleteDirectory : goal.drop_entry-requires-in-DeleteDirectory
unfolding refusal Target
drop_entry-requires-in-DeleteDirectory c =
    let r = rw c.in-DeleteDirectory.is at c.requires.1 in
    let t = rw c.in-DeleteDirectory.is at c.requires.2 in
    child-droppable _ _ (delete-directory-given _ _ r) t c.requires.0

pub set_attributes-requires : goal.set_attributes-requires
unfolding refusal Target
set_attributes-requires c =
    let r = rw c.in-SetAttributes.is at c.requires.1 in
    let t = rw c.in-SetAttributes.is at c.requires.2 in
    (c.requires.0, record { path = c.args.path.now; accepted = r; located = t })

pub clear_attributes-requires : goal.clear_attributes-requires
unfolding refusal Target
clear_attributes-requires c =
    let r = rw c.in-ClearAttributes.is at c.requires.1 in
    let t = rw c.in-ClearAttributes.is at c.requires.2 in
    (c.requires.0, record { path = c.args.path.now; accepted = r; located = t })

pub clear_bytes-requires : goal.clear_bytes-requires
unfolding Target
clear_bytes-requires c =
    let t = rw c.in-ClearFlags.is at c.requires.2 in
    let h = sound-shape c.args.image.now c.requires.0 in
    (omega (arith, t.inside), omega arith)

pub shorten_at-requires : goal.shorten_at-requires
unfolding refusal Target
shorten_at-requires c =
    let r = rw c.in-Shorten.is at c.requires.1 in
    let t = rw c.in-Shorten.is at c.requires.2 in
    (c.requires.0, record { path = c.args.path.now; accepted = r; located = t })

pub replace_at-requires : goal.replace_at-requires
unfolding refusal Target
replace_at-requires c =
    let r = rw c.in-Replace.is at c.requires.1 in
    let t = rw c.in-Replace.is at c.requires.2 in
    (c.requires.0, record { path = c.args.path.now; accepted = r; located = t })

pub move_entry-requires : goal.move_entry-requires
unfolding refusal Target
move_entry-requires c =
    let p = c.requires in
    let r = rw c.in-Move.is at p.1 in
    let t = rw c.in-Move.is at p.2 in
    (old-within t p.0, new-within t p.0, (move-given _ _ _ r).good)

pub returns-in-Create : goal.returns-in-Create
unfolding after
returns-in-Create c = rw c.in-Create.is c.create_at.ensures.bytes

pub returns-in-Write : goal.returns-in-Write
unfolding after Target
returns-in-Write c =
    let t = rw c.in-Write.is at c.requires.2 in
    rw c.in-Write.is (c.write_at.ensures ∙ rw t.place)

pub returns-in-Delete : goal.returns-in-Delete
unfolding after Target
returns-in-Delete c =
    let t = rw c.in-Delete.is at c.requires.2 in
    rw c.in-Delete.is (c.drop_entry.ensures ∙ dropped-image t)

pub returns-in-CreateDirectory : goal.returns-in-CreateDirectory
unfolding after
returns-in-CreateDirectory c = rw c.in-CreateDirectory.is c.create_directory.ensures.bytes

pub returns-in-DeleteDirectory : goal.returns-in-DeleteDirectory
unfolding after Target
returns-in-DeleteDirectory c =
    let t = rw c.in-DeleteDirectory.is at c.requires.2 in
    rw c.in-DeleteDirectory.is (c.drop_entry-in-DeleteDirectory.ensures ∙ dropped-image t)

pub returns-in-SetAttributes : goal.returns-in-SetAttributes
unfolding after Target
returns-in-SetAttributes c =
    let t = rw c.in-SetAttributes.is at c.requires.2 in
    rw c.in-SetAttributes.is (c.set_attributes.ensures ∙ rw t.place)

pub returns-in-ClearAttributes : goal.returns-in-ClearAttributes
unfolding after Target
returns-in-ClearAttributes c =
    let t = rw c.in-ClearAttributes.is at c.requires.2 in
    rw c.in-ClearAttributes.is (c.clear_attributes.ensures ∙ rw t.place)

pub returns-in-ClearFlags : goal.returns-in-ClearFlags
unfolding after Target clear_flags_at
returns-in-ClearFlags c =
    let t = rw c.in-ClearFlags.is at c.requires.2 in
    rw c.in-ClearFlags.is (c.clear_bytes.ensures ∙ rw t.place)

pub returns-in-Shorten : goal.returns-in-Shorten
unfolding after Target
returns-in-Shorten c =
    let t = rw c.in-Shorten.is at c.requires.2 in
    rw c.in-Shorten.is (c.shorten_at.ensures.bytes ∙ rw t.place)

pub returns-in-Replace : goal.returns-in-Replace
unfolding after Target
returns-in-Replace c =
    let t = rw c.in-Replace.is at c.requires.2 in
    rw c.in-Replace.is (c.replace_at.ensures ∙ rw t.place)

pub returns-in-Move : goal.returns-in-Move
unfolding after Target
returns-in-Move c =
    let t = rw c.in-Move.is at c.requires.2 in
    rw c.in-Move.is (c.move_entry.ensures ∙ move-written t)
