use mathlib.Core.Path.{refl}
use Rattle.layout.specs.Listing.{decimal}
use Rattle.lister.proofs.Pieces.{begin, room, more, last}
use Rattle.lister.proofs.text.put_labelled.Goals as goal

pub put_bytes-p-requires : goal.put_bytes-p-requires
put_bytes-p-requires c =
    let a = c.args in
    let p = c.requires in
    room (begin a.out.now _ _ _ (p) refl) a.label.now (decimal a.x) refl

pub put_decimal-requires : goal.put_decimal-requires
put_decimal-requires c =
    let put-bytes = c.put_bytes-p in
    let a = c.args in
    let p = c.requires in
    (more (begin a.out.now _ _ _ (p) refl) put-bytes.ensures (decimal a.x) refl).fits

pub returns : goal.returns
returns c =
    let put-decimal = c.put_decimal in
    let put-bytes = c.put_bytes-p in
    let a = c.args in
    let p = c.requires in
    last (more (begin a.out.now _ _ _ (p) refl) put-bytes.ensures (decimal a.x) refl) put-decimal.ensures refl
