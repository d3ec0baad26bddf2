use Rattle.std.proofs.Common.{sym, ◌∙◌, eq-eqb}
use borrow.Author.Tests.{ne_eqb}
use Rattle.volume_file.proofs.Laws.Begins.{begin-sizes, begin-length, begin-accepted}
use Rattle.volume_file.proofs.begin.fits.Goals as goal

pub returns-then-not-in_range : goal.returns-then-not-in_range
returns-then-not-in_range c = sym (begin-sizes _ _ _ _ (sym c.in_range.ensures ∙ c.if-not-in_range.true))

pub returns-then-file-file_length : goal.returns-then-file-file_length
returns-then-file-file_length c =
    let e = rw c.home.ensures at c.file_length.ensures in
    sym (begin-length _ _ _ _ (sym c.in_range.ensures ∙ c.if-not-in_range.false) (ne_eqb _ _ (λ z. c.if-file-file_length.true (z ∙ sym e))))

pub returns : goal.returns
returns c =
    let e = rw c.home.ensures at c.file_length.ensures in
    sym (begin-accepted _ _ _ _ (sym c.in_range.ensures ∙ c.if-not-in_range.false) (eq-eqb _ _ (c.if-file-file_length.false ∙ e)))
