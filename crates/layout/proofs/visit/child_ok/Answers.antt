use mathlib.Core.Bool.{true, false}
use mathlib.Core.Path.{◌≡◌, sym, ◌∙◌}
use borrow.Author.Tests.{not-true, not-false}
use Rattle.layout.proofs.Walks.Visits.{follow_child-other, follow_child-same, child_entry-below}
use Rattle.layout.proofs.visit.child_ok.Goals as goal

pub returns-then-not-child_matches : goal.returns-then-not-child_matches
returns-then-not-child_matches c =
    let t : c.child_matches.result ≡ false = not-true _ c.if-not-child_matches.true-raw in
    follow_child-other _ _ _ _ _ (sym t ∙ c.child_matches.ensures)

pub directory_ok-requires : goal.directory_ok-requires
directory_ok-requires c =
    let a = c.args in
    let t : c.child_matches.result ≡ true = not-false _ c.if-not-child_matches.false-raw in
    let h = child_entry-below a.image.now a.n a.parent _ a.marks.now (sym t ∙ c.child_matches.ensures) in
    (c.requires.0, rw c.number_at-b.ensures h)

pub returns : goal.returns
returns c =
    let a = c.args in
    let t : c.child_matches.result ≡ true = not-false _ c.if-not-child_matches.false-raw in
    c.directory_ok.ensures ∙ follow_child-same a.image.now a.n a.parent _ a.marks.now (sym t ∙ c.child_matches.ensures) _ c.number_at-b.ensures
