use mathlib.Core.Path.{◌∙◌}
use native.Mathlib.Omega.{arith}
use Rattle.layout.proofs.Walks.Shapes.{sound-shape}
use Rattle.volume.proofs.Laws.Places.{set-path}
use Rattle.volume.proofs.Walks.Attributes.{attributed, attributes-run, vacant-enough, set-named}
use Rattle.volume.proofs.attributes.set_attributes_named.Goals as goal

pub attribute_chain-old-requires : goal.attribute_chain-old-requires
attribute_chain-old-requires c =
    let h = sound-shape c.args.image.now c.requires.0 in
    omega (arith, c.requires.1.located.inside)

pub mark-requires : goal.mark-requires
mark-requires c =
    let h = sound-shape c.args.image.now c.requires.0 in
    omega (arith, c.requires.1.located.inside, c.requires.2)

pub mark_freed-requires : goal.mark_freed-requires
mark_freed-requires c =
    let p = c.requires in
    let at = attributed _ _ p.0 (set-path _ _ _ p.1.accepted) p.1.located c.attribute_chain-old.ensures in
    (attributes-run at p.0, omega (arith, p.2))

pub mark-requires-2 : goal.mark-requires-2
mark-requires-2 c =
    let p = c.requires in
    let h = sound-shape c.args.image.now p.0 in
    omega (arith, p.2)

pub mark_free-requires : goal.mark_free-requires
mark_free-requires c =
    let p = c.requires in
    let a = c.args in
    let at = attributed _ _ p.0 (set-path _ _ _ p.1.accepted) p.1.located c.attribute_chain-old.ensures in
    (attributes-run at p.0, vacant-enough a.image.now _ a.count p.0 p.1.accepted at, omega (arith, p.2))

pub returns : goal.returns
returns c =
    let p = c.requires in
    let a = c.args in
    let at = attributed _ _ p.0 (set-path _ _ _ p.1.accepted) p.1.located c.attribute_chain-old.ensures in
    c.mark_free.ensures ∙ rw (c.mark-2.ensures, c.mark_freed.ensures, c.mark.ensures) (set-named a.image.now _ a.count p.0 p.1.accepted at _)
