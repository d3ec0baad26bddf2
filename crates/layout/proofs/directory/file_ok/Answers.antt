use mathlib.Core.Bool.{true, false}
use mathlib.Core.Path.{◌≡◌, sym, ◌∙◌}
use borrow.Author.Tests.{not-true, not-false}
use Rattle.layout.proofs.Walks.Entries.{file_ok-unnamed, file_ok-numbers}
use Rattle.layout.proofs.directory.file_ok.Goals as goal

pub returns-then-not-named : goal.returns-then-not-named
returns-then-not-named c =
    let t : c.named.result ≡ false = not-true _ c.if-not-named.true-raw in
    file_ok-unnamed _ _ (sym t ∙ c.named.ensures)

pub returns : goal.returns
returns c =
    let t : c.named.result ≡ true = not-false _ c.if-not-named.false-raw in
    c.numbers_ok.ensures ∙ file_ok-numbers _ _ (sym t ∙ c.named.ensures)
