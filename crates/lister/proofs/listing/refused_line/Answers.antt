use mathlib.Core.Path.{refl, ◌∙◌}
use mathlib.Core.List.{[], ◌∷◌, ◌++◌}
use native.Mathlib.Omega.{arith}
use Rattle.layout.specs.Listing.{decimal, refused_line}
use Rattle.lister.proofs.Pieces.{begin, room, more, last}
use Rattle.lister.proofs.Lines.{refused-pieces}
use Rattle.lister.proofs.listing.refused_line.Goals as goal

pub put_labelled-p-requires : goal.put_labelled-p-requires
put_labelled-p-requires c =
    let a = c.args in
    let p = c.requires in
    room (begin a.out.now 0 (refused_line a.number) _ (omega (arith, p)) (refused-pieces a.number))
    ((114 ∷ 101 ∷ 102 ∷ 117 ∷ 115 ∷ 101 ∷ 100 ∷ 32 ∷ []) ++ decimal a.number) _ refl

pub put_byte-requires : goal.put_byte-requires
put_byte-requires c =
    let put-labelled = c.put_labelled-p in
    let a = c.args in
    let p = c.requires in
    (more (begin a.out.now 0 (refused_line a.number) _ (omega (arith, p)) (refused-pieces a.number)) put-labelled.ensures _ refl).fits

pub shape_of-out : goal.shape_of-out
shape_of-out c = c.put_byte.auto.out ∙ c.put_labelled-p.auto.out

pub returns : goal.returns
returns c =
    let put_byte = c.put_byte in
    let put-labelled = c.put_labelled-p in
    let a = c.args in
    let p = c.requires in
    last (more (begin a.out.now 0 (refused_line a.number) _ (omega (arith, p)) (refused-pieces a.number)) put-labelled.ensures _ refl)
    put_byte.ensures refl
