use Rattle.std.proofs.Common.{ℕ, subst}
use Rattle.std.proofs.lemmas.Result.{err_from_is_err_and}
use Rattle.layout.specs.Directory.{is_file}
use Rattle.layout.specs.Reasons.{number_of}
use Rattle.layout.specs.Walks.Looks.{Opened}
use Rattle.layout.proofs.Laws.Reasons.{reason}
use Rattle.layout.proofs.Walks.Looks.{form-refused, form-given, file-found}
use Rattle.layout.proofs.file.open_file.Goals as goal

pub returns-in_err-path_refusal : goal.returns-in_err-path_refusal
returns-in_err-path_refusal c =
    let a = c.args in
    let why = c.in_err-path_refusal.field-0.0 in
    let q = err_from_is_err_and c.from_residual.result c.from_residual.ensures.1 in
    rw (q.1, q.2) (form-refused a.image.now a.path.now (number_of why) c.in_err-path_refusal.ensures (reason why))

pub open_entry-requires : goal.open_entry-requires
open_entry-requires c = form-given _ _ c.requires c.in_ok-path_refusal.ensures

pub returns : goal.returns
returns c =
    let a = c.args in
    subst (λ (x : ℕ). Opened is_file a.image.now a.path.now x c.open_entry.result) (file-found a.image.now a.path.now c.in_ok-path_refusal.ensures) c.open_entry.ensures
