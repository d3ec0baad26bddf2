use Rattle.std.proofs.Common.{refl, sym, arith}
use lib.Seq.{length-take-le}
use Rattle.layout.proofs.Laws.Bytes.{lent}
use Rattle.volume_file.specs.Format.{file_signature}
use Rattle.volume_file.proofs.Laws.Begins.{header_made}
use Rattle.volume_file.proofs.begin.write_header.Goals as goal

pub copy-requires : goal.copy-requires
copy-requires c = sym (length-take-le 12 c.args.file.now (omega arith))

pub returns : goal.returns
returns c =
    let a = c.args in
    header_made a.file.now _ _ _ _ _ a.sizes.image a.sizes.journal a.sizes.own 488 c.requires (lent a.file.now 0 12 _ file_signature c.copy.ensures refl) c.put32.ensures c.put32-2.ensures c.put32-3.ensures (c.fill.ensures.after (λ y e. e)) refl
