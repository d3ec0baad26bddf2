use Rattle.std.proofs.Common.{refl}
use Rattle.layout.specs.Directory.{is_file, is_directory}
use Rattle.volume.specs.Change.{refusal}
use Rattle.volume.specs.Replace.{replace_refusal}
use Rattle.volume.specs.Walks.Targets.{Target}
use Rattle.volume.proofs.Walks.Targets.{prepared-place, prepared-entry, prepared-move}
use Rattle.volume.proofs.change.refusal.Goals as goal

pub returns-in-Create : goal.returns-in-Create
unfolding refusal Target
returns-in-Create c = rw c.in-Create.is (prepared-place _ _ _ _ refl (λ k b first size blocks v. v) c.create_refusal.result c.create_refusal.ensures)

pub returns-in-Write : goal.returns-in-Write
unfolding refusal Target
returns-in-Write c = rw c.in-Write.is (prepared-entry _ _ is_file _ _ refl (λ k b first size blocks l. l) c.write_refusal.result c.write_refusal.ensures)

pub returns-in-Delete : goal.returns-in-Delete
unfolding refusal Target
returns-in-Delete c = rw c.in-Delete.is (prepared-entry _ _ is_file _ _ refl (λ k b first size blocks l. l) c.open_file.result c.open_file.ensures)

pub returns-in-CreateDirectory : goal.returns-in-CreateDirectory
unfolding refusal Target
returns-in-CreateDirectory c = rw c.in-CreateDirectory.is (prepared-place _ _ _ _ refl (λ k b first size blocks v. v) c.create_directory_refusal.result c.create_directory_refusal.ensures)

pub returns-in-DeleteDirectory : goal.returns-in-DeleteDirectory
unfolding refusal Target
returns-in-DeleteDirectory c = rw c.in-DeleteDirectory.is (prepared-entry _ _ is_directory _ _ refl (λ k b first size blocks l. l) c.delete_directory_refusal.result c.delete_directory_refusal.ensures)

pub returns-in-SetAttributes : goal.returns-in-SetAttributes
unfolding refusal Target
returns-in-SetAttributes c = rw c.in-SetAttributes.is (prepared-entry _ _ is_file _ _ refl (λ k b first size blocks l. l) c.set_attributes_refusal.result c.set_attributes_refusal.ensures)

pub returns-in-ClearAttributes : goal.returns-in-ClearAttributes
unfolding refusal Target
returns-in-ClearAttributes c = rw c.in-ClearAttributes.is (prepared-entry _ _ is_file _ _ refl (λ k b first size blocks l. l) c.open_file-in-ClearAttributes.result c.open_file-in-ClearAttributes.ensures)

pub returns-in-ClearFlags : goal.returns-in-ClearFlags
unfolding refusal Target
returns-in-ClearFlags c = rw c.in-ClearFlags.is (prepared-entry _ _ is_file _ _ refl (λ k b first size blocks l. l) c.open_file-in-ClearFlags.result c.open_file-in-ClearFlags.ensures)

pub returns-in-Shorten : goal.returns-in-Shorten
unfolding refusal Target
returns-in-Shorten c = rw c.in-Shorten.is (prepared-entry _ _ is_file _ _ refl (λ k b first size blocks l. l) c.shorten_refusal.result c.shorten_refusal.ensures)

pub returns-in-Replace : goal.returns-in-Replace
unfolding refusal Target replace_refusal
returns-in-Replace c = rw c.in-Replace.is (prepared-entry _ _ is_file _ _ refl (λ k b first size blocks l. l) c.write_refusal-in-Replace.result c.write_refusal-in-Replace.ensures)

pub returns-in-Move : goal.returns-in-Move
unfolding refusal Target
returns-in-Move c = rw c.in-Move.is (prepared-move _ _ _ _ refl (λ k b first size blocks m. m) c.move_refusal.result c.move_refusal.ensures)
