use mathlib.Core.Path.{◌∙◌}
use native.Mathlib.Omega.{arith}
use Rattle.layout.proofs.Walks.Shapes.{sound-shape}
use Rattle.volume.proofs.Laws.Places.{set-path}
use Rattle.volume.proofs.Walks.Attributes.{attributed, attributes-freeable, set-fillable, set-numbers, set-done}
use Rattle.volume.proofs.attributes.set_attributes.Goals as goal

pub attribute_chain-old-requires : goal.attribute_chain-old-requires
attribute_chain-old-requires c =
    let h = sound-shape c.args.image.now c.requires.0 in
    omega (arith, c.requires.1.located.inside)

pub release-requires : goal.release-requires
release-requires c =
    let p = c.requires in
    let at = attributed _ _ p.0 (set-path _ _ _ p.1.accepted) p.1.located c.attribute_chain-old.ensures in
    attributes-freeable at p.0

pub fill_blocks-first-requires : goal.fill_blocks-first-requires
fill_blocks-first-requires c =
    let p = c.requires in
    let a = c.args in
    let at = attributed _ _ p.0 (set-path _ _ _ p.1.accepted) p.1.located c.attribute_chain-old.ensures in
    set-fillable a.image.now _ _ p.0 p.1.accepted at _ c.release.ensures

pub set_attribute_fields-requires : goal.set_attribute_fields-requires
set_attribute_fields-requires c =
    let p = c.requires in
    let a = c.args in
    let at = attributed _ _ p.0 (set-path _ _ _ p.1.accepted) p.1.located c.attribute_chain-old.ensures in
    let h = sound-shape a.image.now p.0 in
    let w = set-numbers a.image.now _ a.bytes.now p.0 p.1.accepted at _ c.release.ensures _ c.fill_blocks-first.ensures.first _ c.fill_blocks-first.ensures.bytes in
    (omega (arith, p.1.located.inside), w.0, w.1)

pub returns : goal.returns
returns c =
    let p = c.requires in
    let a = c.args in
    let at = attributed _ _ p.0 (set-path _ _ _ p.1.accepted) p.1.located c.attribute_chain-old.ensures in
    c.set_attribute_fields.ensures ∙ set-done a.image.now _ a.bytes.now p.0 p.1.accepted at _ c.release.ensures _ c.fill_blocks-first.ensures.first _ c.fill_blocks-first.ensures.bytes
