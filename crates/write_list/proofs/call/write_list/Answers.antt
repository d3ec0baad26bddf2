use mathlib.Core.Path.{sym, ◌∙◌}
use Rattle.layout.proofs.Laws.Reasons.{reason}
use Rattle.journal.proofs.Walks.Changes.{ready}
use Rattle.write_list.proofs.Laws.Turns.{list-unready, list-malformed, list_done}
use Rattle.write_list.proofs.call.write_list.Goals as goal

pub returns-in-Err : goal.returns-in-Err
returns-in-Err c = list-unready _ _ _ c.in-Err.ensures (reason c.in-Err.why)

pub returns-then-not-list_ok : goal.returns-then-not-list_ok
returns-then-not-list_ok c =
    list-malformed _ _ (ready _ _ (sym c.in_default.ensures)) (sym c.list_ok.ensures ∙ c.if-not-list_ok.true)

pub write_items-requires : goal.write_items-requires
write_items-requires c =
    (ready _ _ (sym c.in_default.ensures), sym c.list_ok.ensures ∙ c.if-not-list_ok.false)

pub returns : goal.returns
returns c =
    c.write_items.ensures ∙ list_done _ _ (ready _ _ (sym c.in_default.ensures)) (sym c.list_ok.ensures ∙ c.if-not-list_ok.false)
