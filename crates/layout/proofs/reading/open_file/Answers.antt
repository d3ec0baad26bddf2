use Rattle.std.proofs.Common.{ℕ, sym, subst}
use Rattle.std.proofs.lemmas.Result.{err_from_is_err_and}
use Rattle.layout.specs.Directory.{is_file}
use Rattle.layout.specs.Reasons.{number_of}
use Rattle.layout.specs.Walks.Looks.{Opened}
use Rattle.layout.proofs.Laws.Reasons.{reason}
use Rattle.layout.proofs.Walks.Looks.{lookup_refusal-check, lookup_refusal-sound}
use Rattle.layout.proofs.reading.open_file.Goals as goal

pub returns-in_err-check : goal.returns-in_err-check
returns-in_err-check c =
    let a = c.args in
    let why = c.in_err-check.field-0.0 in
    let q = err_from_is_err_and c.from_residual.result c.from_residual.ensures.1 in
    rw (q.1, q.2) (lookup_refusal-check a.image.now a.path.now (number_of why) c.in_err-check.ensures (reason why))

pub returns : goal.returns
returns c =
    let a = c.args in
    subst (λ (x : ℕ). Opened is_file a.image.now a.path.now x c.open_file.result) (lookup_refusal-sound a.image.now a.path.now (sym c.in_ok-check.ensures)) c.open_file.ensures
