-- Two writes in the part of block 0, each a splice in the image (lent-twice).
use Rattle.std.proofs.Common.{◌≡◌, ℕ, List, ◌++◌, length, ap, ◌∙◌, arith}
use Rattle.std.proofs.Math.ListN.{length-append}
use Rattle.std.proofs.Math.Seq.{length-take-le}
use Rattle.layout.specs.Bytes.{splice}
use Rattle.volume.specs.Format.{header_bytes}
use Rattle.volume.proofs.Walks.Format.{length-header}
use Rattle.volume.proofs.Walks.Lent.{lent-twice}
use Rattle.volume.proofs.format.put_header.Goals as goal

pub put_labels-requires : goal.put_labels-requires
put_labels-requires c =
    (omega (arith, c.put_numbers.auto.block, length-take-le 512 c.args.image.now (omega (arith, c.requires.0))), c.requires.3)

pub returns : goal.returns
returns c =
    let a = c.args in
    let h = length-header a.n a.used in
    let u : length (a.uuid ++ a.name.now) ≡ 144 = length-append a.uuid a.name.now ∙ omega arith in
    lent-twice a.image.now 0 512 0 112 (header_bytes a.n a.used) (a.uuid ++ a.name.now) _
    (c.put_labels.ensures ∙ ap (λ (x : List ℕ). splice x 112 (a.uuid ++ a.name.now)) c.put_numbers.ensures) (omega arith) (omega arith) (omega arith)
