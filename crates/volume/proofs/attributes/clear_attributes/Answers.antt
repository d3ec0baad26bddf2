use mathlib.Core.Path.{◌∙◌}
use native.Mathlib.Omega.{arith}
use Rattle.layout.proofs.Walks.Shapes.{sound-shape}
use Rattle.volume.proofs.Walks.Attributes.{attributed, attributes-freeable, cleared-is}
use Rattle.volume.proofs.attributes.clear_attributes.Goals as goal

pub attribute_chain-a-requires : goal.attribute_chain-a-requires
attribute_chain-a-requires c =
    let h = sound-shape c.args.image.now c.requires.0 in
    omega (arith, c.requires.1.located.inside)

pub release-requires : goal.release-requires
release-requires c =
    let p = c.requires in
    let at = attributed _ _ p.0 p.1.accepted p.1.located c.attribute_chain-a.ensures in
    attributes-freeable at p.0

pub set_attribute_fields-requires : goal.set_attribute_fields-requires
set_attribute_fields-requires c =
    let p = c.requires in
    let h = sound-shape c.args.image.now p.0 in
    (omega (arith, p.1.located.inside), omega arith, omega arith)

pub returns : goal.returns
returns c =
    let p = c.requires in
    let at = attributed _ _ p.0 p.1.accepted p.1.located c.attribute_chain-a.ensures in
    c.set_attribute_fields.ensures ∙ rw c.release.ensures (cleared-is at)
