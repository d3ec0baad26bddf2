use mathlib.Core.Path.{◌∙◌}
use native.Mathlib.Omega.{arith}
use Rattle.layout.proofs.Walks.Shapes.{sound-shape}
use Rattle.volume.proofs.Walks.Delete.{own-freeable, second-freeable, both-freed}
use Rattle.volume.proofs.delete.drop_entry.Goals as goal

pub attribute_chain-a-requires : goal.attribute_chain-a-requires
attribute_chain-a-requires c =
    let p = c.requires in
    let h = sound-shape c.args.image.now p.sound in
    omega (arith, p.inside)

pub release-requires : goal.release-requires
release-requires c = own-freeable c.requires

pub release-requires-2 : goal.release-requires-2
release-requires-2 c =
    second-freeable c.requires c.attribute_chain-a.ensures _
    c.release.ensures

pub clear_slot-requires : goal.clear_slot-requires
clear_slot-requires c =
    let p = c.requires in
    let h = sound-shape c.args.image.now p.sound in
    omega (arith, p.inside)

pub returns : goal.returns
returns c =
    let clear-slot = c.clear_slot in
    let release2 = c.release-2 in
    let release = c.release in
    let attribute-chain = c.attribute_chain-a in
    let p = c.requires in
    clear-slot.ensures ∙ rw (release2.ensures, both-freed p attribute-chain.ensures _ release.ensures)
