use mathlib.Core.Path.{◌≡◌, ◌∙◌}
use mathlib.Core.Bool.{true, false}
use borrow.Author.Tests.{not-true, not-false}
use Rattle.layout.proofs.Walks.Owned.{follow_file-stop, follow_file-next}
use Rattle.layout.proofs.chains.follow_file.Goals as goal

pub returns-then-not-follow_own : goal.returns-then-not-follow_own
returns-then-not-follow_own c =
    let o = c.follow_own in
    let t : o.result ≡ false = not-true _ c.if-not-follow_own.true-raw in
    follow_file-stop _ _ _ _ _ (rw t at o.ensures)

pub returns : goal.returns
returns c =
    let o = c.follow_own in
    let t : o.result ≡ true = not-false _ c.if-not-follow_own.false-raw in
    let e = c.attribute_chain-c.ensures in
    c.follow.ensures ∙ follow_file-next _ _ _ _ _ (rw t at o.ensures) _ _ e.0 e.1
