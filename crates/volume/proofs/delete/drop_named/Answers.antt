use mathlib.Core.Path.{◌∙◌}
use native.Mathlib.Omega.{arith}
use Rattle.layout.proofs.Walks.Shapes.{sound-shape}
use Rattle.volume.proofs.Walks.Delete.{own-run, second_run, both-named}
use Rattle.volume.proofs.delete.drop_named.Goals as goal

pub attribute_chain-a-requires : goal.attribute_chain-a-requires
attribute_chain-a-requires c =
    let p = c.requires in
    let h = sound-shape c.args.image.now p.0.sound in
    omega (arith, p.0.inside)

pub mark-requires : goal.mark-requires
mark-requires c = omega (arith, c.requires.0.inside, c.requires.1)

pub mark_freed-requires : goal.mark_freed-requires
mark_freed-requires c =
    let p = c.requires in
    (own-run p.0, omega (arith, p.1))

pub mark_freed-requires-2 : goal.mark_freed-requires-2
mark_freed-requires-2 c =
    let p = c.requires in
    let attribute-chain = c.attribute_chain-a in
    (second_run p.0 attribute-chain.ensures, omega (arith, p.1))

pub returns : goal.returns
returns c =
    let mark-freed2 = c.mark_freed-2 in
    let mark-freed = c.mark_freed in
    let mark = c.mark in
    let p = c.requires in
    let attribute-chain = c.attribute_chain-a in
    mark-freed2.ensures ∙ rw (mark-freed.ensures, mark.ensures) (both-named p.0 attribute-chain.ensures _)
