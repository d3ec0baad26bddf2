use Rattle.std.proofs.Common.{refl, arith}
use Rattle.std.proofs.lemmas.Result.{err_from_is_err_and}
use Rattle.layout.specs.Directory.{is_file}
use Rattle.layout.proofs.Laws.Reasons.{reason}
use Rattle.layout.proofs.Walks.Looks.{opens-why, lookup-refused, lookup-opened, opened-small}
use Rattle.layout.proofs.reading.lookup.Goals as goal

pub returns-in_err-file : goal.returns-in_err-file
returns-in_err-file c =
    let a = c.args in
    let why = c.in_err-file.field-0.0 in
    let q = err_from_is_err_and c.from_residual.result c.from_residual.ensures.1 in
    rw (q.1, q.2) (lookup-refused (opens-why is_file a.image.now a.path.now why c.in_err-file.ensures) (reason why))

pub overflow_cast-result-2 : goal.overflow_cast-result-2
overflow_cast-result-2 c = omega (arith, (opened-small c.in_ok-file.ensures refl).1)

pub overflow_cast-result-3 : goal.overflow_cast-result-3
overflow_cast-result-3 c = omega (arith, (opened-small c.in_ok-file.ensures refl).0)

pub returns : goal.returns
returns c = lookup-opened c.in_ok-file.ensures refl
