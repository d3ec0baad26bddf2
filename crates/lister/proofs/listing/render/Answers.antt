use Rattle.std.proofs.Common.{◌∙◌, refl, arith}
use Rattle.layout.proofs.Laws.Reasons.{reason}
use Rattle.lister.proofs.Pieces.{at-start}
use Rattle.lister.proofs.Lines.{refused-listing, listed-sound, accepted-listing}
use Rattle.lister.proofs.Bounds.{refused-short, list-short}
use Rattle.lister.proofs.listing.render.Goals as goal

pub list-requires : goal.list-requires
list-requires c =
    let s = c.args.image.now in
    let z = listed-sound s 0 c.in-Ok.ensures refl in
    (z, omega (arith, list-short s z, c.requires))

pub refused_line-requires : goal.refused_line-requires
refused_line-requires c = omega (arith, refused-short c.number.result, c.requires)

pub returns-in-Ok : goal.returns-in-Ok
returns-in-Ok c = at-start c.list.ensures _ (accepted-listing c.args.image.now 0 c.in-Ok.ensures refl)

pub returns-in-Err : goal.returns-in-Err
returns-in-Err c =
    let number = c.number.result in
    let e = c.number.ensures in
    at-start c.refused_line.ensures _ (refused-listing c.args.image.now number (e ∙ c.in-Err.ensures) (λ z. reason c.in-Err.why (rw e at z)))
