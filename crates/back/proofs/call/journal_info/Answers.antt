use mathlib.Core.Path.{sym, ◌∙◌}
use native.Mathlib.Omega.{arith}
use Rattle.layout.proofs.Laws.Reasons.{reason}
use Rattle.journal.specs.Journal.{used}
use Rattle.journal.proofs.Walks.Changes.{ready}
use Rattle.back.proofs.Laws.Turns.{right-ready, right-head, info-unready, info-ready}
use Rattle.back.proofs.call.journal_info.Goals as goal

pub returns-in-Err : goal.returns-in-Err
returns-in-Err c = info-unready _ _ (c.number.ensures ∙ c.in-Err.ensures) (λ z. reason c.in-Err.why (sym c.number.ensures ∙ z))

pub get32-used-requires : goal.get32-used-requires
get32-used-requires c =
    let w = right-head _ (right-ready (ready _ _ (sym c.in_default.ensures))) in
    omega (arith, w.long)

pub tally-found-requires : goal.tally-found-requires
tally-found-requires c = right-ready (ready _ _ (sym c.in_default.ensures))

pub returns : goal.returns
unfolding used
returns c =
    let t = c.tally-found.ensures in
    info-ready _ (ready _ _ (sym c.in_default.ensures)) _ _ _ c.get32-used.ensures t.records t.last
