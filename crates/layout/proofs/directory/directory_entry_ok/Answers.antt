use mathlib.Core.Bool.{true, false}
use mathlib.Core.Path.{◌≡◌, sym, ◌∙◌}
use native.Mathlib.Omega.{arith}
use borrow.Author.Tests.{not-true, not-false}
use Rattle.layout.proofs.Walks.Entries.{entry_ok-unnamed, entry_ok-attribute, entry_ok-attribute-size, entry_ok-size}
use Rattle.layout.proofs.directory.directory_entry_ok.Goals as goal

pub returns-then-not-named : goal.returns-then-not-named
returns-then-not-named c =
    let t : c.named.result ≡ false = not-true _ c.if-not-named.true-raw in
    entry_ok-unnamed _ _ (sym t ∙ c.named.ensures)

pub returns-then-get32-ne0 : goal.returns-then-get32-ne0
returns-then-get32-ne0 c =
    let t : c.named.result ≡ true = not-false _ c.if-not-named.false-raw in
    entry_ok-attribute _ _ (sym t ∙ c.named.ensures) _ c.get32.ensures c.if-get32-ne0.true

pub returns-then-get32-ne0-2 : goal.returns-then-get32-ne0-2
returns-then-get32-ne0-2 c =
    let t : c.named.result ≡ true = not-false _ c.if-not-named.false-raw in
    entry_ok-attribute-size _ _ (sym t ∙ c.named.ensures) _ c.get32.ensures (omega arith) _ c.get32-2.ensures c.if-get32-ne0-2.true

pub returns : goal.returns
returns c =
    let t : c.named.result ≡ true = not-false _ c.if-not-named.false-raw in
    entry_ok-size _ _ (sym t ∙ c.named.ensures) _ c.get32.ensures (omega arith) _ c.get32-2.ensures (omega arith) _ c.get32-3.ensures
