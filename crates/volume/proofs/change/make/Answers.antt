use mathlib.Core.Path.{◌∙◌}
use Rattle.volume.proofs.Walks.Targets.{target-low, target-slot}
use Rattle.volume.proofs.change.make.Goals as goal

pub apply-requires : goal.apply-requires
apply-requires c = c.requires

pub slot_of-requires : goal.slot_of-requires
slot_of-requires c =
    let a = c.args in
    target-low a.image.now a.path.now a.bytes.now _ a.found.block a.found.first a.found.size a.found.blocks a.what c.requires.2

pub returns : goal.returns
returns c = let a = c.args in record { slot = c.slot_of.ensures ∙ target-slot a.image.now a.path.now a.bytes.now _ a.found.block a.found.first a.found.size a.found.blocks a.what c.requires.2; bytes = c.apply.ensures }
