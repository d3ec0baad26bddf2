-- Each exit is one law of Turns.
use mathlib.Core.Path.{sym, ◌∙◌}
use Rattle.layout.proofs.Laws.Reasons.{reason}
use Rattle.journal.proofs.Walks.Changes.{ready}
use Rattle.back.proofs.Laws.Turns.{right-ready, back-unready, back-unmarked, back_done}
use Rattle.back.proofs.call.undo_to.Goals as goal

pub returns-in-Err : goal.returns-in-Err
returns-in-Err c = back-unready _ _ _ (c.number.ensures ∙ c.in-Err.ensures) (λ z. reason c.in-Err.why (sym c.number.ensures ∙ z))

pub had_mark-requires : goal.had_mark-requires
had_mark-requires c = right-ready (ready _ _ (sym c.in_default.ensures))

pub returns-then-not-had_mark : goal.returns-then-not-had_mark
returns-then-not-had_mark c =
    rw c.number-then-not-had_mark.ensures
    (back-unmarked _ _ (ready _ _ (sym c.in_default.ensures)) (sym c.had_mark.ensures ∙ c.if-not-had_mark.true))

pub take_to-done-requires : goal.take_to-done-requires
take_to-done-requires c =
    (ready _ _ (sym c.in_default.ensures), sym c.had_mark.ensures ∙ c.if-not-had_mark.false)

pub returns : goal.returns
returns c =
    c.take_to-done.ensures ∙ back_done _ _ (ready _ _ (sym c.in_default.ensures)) (sym c.had_mark.ensures ∙ c.if-not-had_mark.false)
