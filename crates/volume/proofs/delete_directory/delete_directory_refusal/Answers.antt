use Rattle.std.proofs.Common.{refl, sym, ◌∙◌}
use Rattle.std.proofs.lemmas.Result.{err_from_is_err_and}
use Rattle.layout.specs.Directory.{is_directory}
use Rattle.layout.proofs.Laws.Reasons.{reason}
use Rattle.layout.proofs.Walks.Looks.{opens_as}
use Rattle.volume.proofs.Walks.DeleteDirectory.{delete-directory-refused, child-at, child-used, child-empty}
use Rattle.volume.proofs.delete_directory.delete_directory_refusal.Goals as goal

pub returns-in_err-directory : goal.returns-in_err-directory
returns-in_err-directory c =
    let a = c.args in
    let why = c.in_err-directory.field-0.0 in
    let e = c.in_err-directory.ensures in
    let q = err_from_is_err_and c.from_residual.result c.from_residual.ensures.1 in
    rw (q.1, q.2) (e ∙ delete-directory-refused a.image.now a.path.now (λ z. reason why (e ∙ z)))

pub is_empty-requires : goal.is_empty-requires
is_empty-requires c =
    let o = c.in_ok-directory.ensures in
    child-at _ _ (sym o.number_is) (o.file refl) c.requires

pub returns-then-not-is_empty : goal.returns-then-not-is_empty
returns-then-not-is_empty c =
    let o = c.in_ok-directory.ensures in
    child-used _ _ (sym o.number_is) (o.file refl) (sym c.if-not-is_empty.true ∙ c.is_empty.ensures)

pub returns : goal.returns
returns c =
    let o = c.in_ok-directory.ensures in
    let found = sym o.number_is in
    opens_as is_directory _ _ (found ∙ child-empty _ _ found (o.file refl) (sym c.if-not-is_empty.false ∙ c.is_empty.ensures)) o
