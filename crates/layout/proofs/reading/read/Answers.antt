use Rattle.std.proofs.Common.{refl, sym}
use Rattle.std.proofs.lemmas.Result.{err_from_is_err_and}
use Rattle.layout.specs.Directory.{is_file}
use Rattle.layout.proofs.Laws.Reasons.{reason}
use Rattle.layout.proofs.Walks.Looks.{opens-why, read-fills, read-room, opened-chain, read-refused, read_past}
use Rattle.layout.proofs.reading.read.Goals as goal

pub returns-in_err-file : goal.returns-in_err-file
returns-in_err-file c =
    let a = c.args in
    let why = c.in_err-file.field-0.0 in
    let q = err_from_is_err_and c.from_residual.result c.from_residual.ensures.1 in
    rw (q.1, q.2) (sym (read-refused (opens-why is_file a.image.now a.path.now why c.in_err-file.ensures) a.offset a.buffer.now (reason why)))

pub returns-then-file-offset : goal.returns-then-file-offset
returns-then-file-offset c = let a = c.args in sym (read_past c.in_ok-file.ensures refl a.offset a.buffer.now c.if-file-offset.true)

pub read_chain-requires : goal.read_chain-requires
read_chain-requires c =
    let a = c.args in
    let count = c.min-count.result in
    (opened-chain c.in_ok-file.ensures refl, read-room c.in_ok-file.ensures refl a.offset a.buffer.now count count c.if-file-offset.false c.min-count.ensures refl)

pub returns : goal.returns
returns c =
    let a = c.args in
    let count = c.min-count.result in
    read-fills c.in_ok-file.ensures refl a.offset a.buffer.now count count _ c.if-file-offset.false c.min-count.ensures refl c.read_chain.ensures
