use mathlib.Core.Path.{◌∙◌}
use native.Mathlib.Omega.{arith}
use Rattle.layout.proofs.Walks.Shapes.{sound-shape}
use Rattle.volume.proofs.Walks.Attributes.{attributed, attributes-run, cleared-named}
use Rattle.volume.proofs.attributes.clear_attributes_named.Goals as goal

pub attribute_chain-a-requires : goal.attribute_chain-a-requires
attribute_chain-a-requires c =
    let h = sound-shape c.args.image.now c.requires.0 in
    omega (arith, c.requires.1.located.inside)

pub mark-requires : goal.mark-requires
mark-requires c =
    let h = sound-shape c.args.image.now c.requires.0 in
    omega (arith, c.requires.1.located.inside, c.requires.2)

pub mark_freed-requires : goal.mark_freed-requires
mark_freed-requires c =
    let p = c.requires in
    let at = attributed _ _ p.0 p.1.accepted p.1.located c.attribute_chain-a.ensures in
    (attributes-run at p.0, omega (arith, p.2))

pub returns : goal.returns
returns c =
    let p = c.requires in
    let at = attributed _ _ p.0 p.1.accepted p.1.located c.attribute_chain-a.ensures in
    c.mark_freed.ensures ∙ rw c.mark.ensures (cleared-named at _)
