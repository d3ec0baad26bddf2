use Rattle.std.proofs.Common.{ℕ, ◌*◌, refl, sym, ap}
use Rattle.std.proofs.lemmas.Result.{err_from_is_err_and}
use Rattle.layout.specs.Directory.{is_file}
use Rattle.layout.proofs.Laws.Reasons.{reason}
use Rattle.layout.proofs.Walks.Looks.{opens-why, attributes-refused, opened-attributes, attributes-room, attributes-fill}
use Rattle.layout.proofs.reading.read_attributes.Goals as goal

pub returns-in_err-file : goal.returns-in_err-file
returns-in_err-file c =
    let a = c.args in
    let why = c.in_err-file.field-0.0 in
    let q = err_from_is_err_and c.from_residual.result c.from_residual.ensures.1 in
    rw (q.1, q.2) (sym (attributes-refused (opens-why is_file a.image.now a.path.now why c.in_err-file.ensures) a.buffer.now (reason why)))

pub read_chain-requires : goal.read_chain-requires
read_chain-requires c =
    let a = c.args in
    let count = 512 * c.min-count.result in (
      opened-attributes c.in_ok-file.ensures refl c.attribute_chain-chain.ensures,
      attributes-room c.in_ok-file.ensures refl c.attribute_chain-chain.ensures a.buffer.now count count (ap (λ (x : ℕ). 512 * x) c.min-count.ensures) refl,
    )

pub returns : goal.returns
returns c =
    let a = c.args in
    let count = 512 * c.min-count.result in
    attributes-fill c.in_ok-file.ensures refl c.attribute_chain-chain.ensures a.buffer.now count count _ (ap (λ (x : ℕ). 512 * x) c.min-count.ensures) refl c.read_chain.ensures
