use Rattle.layout.proofs.Walks.Entries.{numbers_ok-attributes, numbers_ok-blocks, numbers_ok-empty, numbers_ok-filled}
use mathlib.Core.Path.{◌≡◌, sym, ◌∙◌}
use mathlib.Core.Bool.{true, false}
use borrow.Author.Tests.{not-true, not-false}
use Rattle.layout.proofs.directory.numbers_ok.Goals as goal

pub returns-then-not-attributes_ok : goal.returns-then-not-attributes_ok
returns-then-not-attributes_ok c =
    let t : c.attributes_ok.result ≡ false = not-true _ c.if-not-attributes_ok.true-raw in
    sym (numbers_ok-attributes _ _ (sym t ∙ c.attributes_ok.ensures))

pub returns-then-blocks-size : goal.returns-then-blocks-size
returns-then-blocks-size c =
    let t : c.attributes_ok.result ≡ true = not-false _ c.if-not-attributes_ok.false-raw in
    sym (numbers_ok-blocks _ _ (sym t ∙ c.attributes_ok.ensures) _ _ c.get32-size.ensures c.get32-blocks.ensures c.if-blocks-size.true)

pub returns-then-get32-eq0 : goal.returns-then-get32-eq0
returns-then-get32-eq0 c =
    let t : c.attributes_ok.result ≡ true = not-false _ c.if-not-attributes_ok.false-raw in
    sym (numbers_ok-empty _ _ (sym t ∙ c.attributes_ok.ensures) _ _ c.get32-size.ensures c.get32-blocks.ensures c.if-blocks-size.false _
    c.get32.ensures c.if-get32-eq0.true)

pub returns : goal.returns
returns c =
    let t : c.attributes_ok.result ≡ true = not-false _ c.if-not-attributes_ok.false-raw in
    sym (numbers_ok-filled _ _ (sym t ∙ c.attributes_ok.ensures) _ _ c.get32-size.ensures c.get32-blocks.ensures c.if-blocks-size.false _
    c.get32.ensures c.if-get32-eq0.false)
