use Rattle.std.proofs.Common.{refl, sym, ◌∙◌}
use Rattle.std.proofs.lemmas.Result.{err_from_is_err_and}
use Rattle.layout.specs.Directory.{is_file}
use Rattle.layout.proofs.Laws.Reasons.{reason}
use Rattle.layout.proofs.Walks.Looks.{opens_as}
use Rattle.volume.proofs.Walks.Shorten.{shorten-missing, shorten-above, shorten-fine}
use Rattle.volume.proofs.shorten.shorten_refusal.Goals as goal

pub returns-in_err-file : goal.returns-in_err-file
returns-in_err-file c =
    let a = c.args in
    let why = c.in_err-file.field-0.0 in
    let e = c.in_err-file.ensures in
    let q = err_from_is_err_and c.from_residual.result c.from_residual.ensures.1 in
    rw (q.1, q.2) (e ∙ shorten-missing a.image.now a.path.now a.size (λ z. reason why (e ∙ z)))

pub returns-then-file-size : goal.returns-then-file-size
returns-then-file-size c =
    let o = c.in_ok-file.ensures in
    shorten-above _ _ _ (sym o.number_is) (o.file refl) c.if-file-size.true

pub returns : goal.returns
returns c =
    let o = c.in_ok-file.ensures in
    let found = sym o.number_is in
    opens_as is_file _ _ (found ∙ shorten-fine _ _ _ found (o.file refl) c.if-file-size.false) o
