use mathlib.Core.Path.{◌∙◌}
use native.Mathlib.Omega.{arith}
use Rattle.layout.proofs.Walks.Shapes.{sound-shape}
use Rattle.volume.proofs.Walks.CreateDirectory.{create-directory-marked}
use Rattle.volume.proofs.create_directory.create_directory_named.Goals as goal

pub mark-requires : goal.mark-requires
mark-requires c =
    let p = c.requires in
    omega (arith, p.1, p.3)

pub mark_grown-requires : goal.mark_grown-requires
mark_grown-requires c =
    let p = c.requires in
    let h = sound-shape c.args.image.now p.0 in
    (h, omega (arith, h.low), p.2, omega (arith, p.3))

pub returns : goal.returns
returns c =
    let a = c.args in
    c.mark_grown.ensures ∙ rw c.mark.ensures (create-directory-marked a.image.now a.block a.d a.marks.now)
