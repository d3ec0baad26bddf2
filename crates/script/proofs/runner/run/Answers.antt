use Rattle.std.proofs.Common.{sym, ◌∙◌}
use borrow.Author.Tests.{leb-true}
use Rattle.script.proofs.Walks.Running.{bad-script, no-room, all-run}
use Rattle.script.proofs.Walks.Replaying.{replays}
use Rattle.script.proofs.runner.run.Goals as goal

pub returns-then-not-well_formed : goal.returns-then-not-well_formed
returns-then-not-well_formed c =
    let w = sym c.well_formed-2.ensures ∙ c.if-not-well_formed.true in
    let d = replays _ _ _ _ _ (bad-script _ _ _ _ w) in
    record { outcome = d.0; replay = d.1 }

pub answers_fit-requires : goal.answers_fit-requires
answers_fit-requires c = sym c.well_formed-2.ensures ∙ c.if-not-well_formed.false

pub returns-then-not-answers_fit : goal.returns-then-not-answers_fit
returns-then-not-answers_fit c =
    let w = sym c.well_formed-2.ensures ∙ c.if-not-well_formed.false in
    let f = sym c.answers_fit.ensures ∙ c.if-not-answers_fit.true in
    let d = replays _ _ _ _ _ (no-room _ _ _ _ w f) in
    record { outcome = d.0; replay = d.1 }

pub execute-requires : goal.execute-requires
execute-requires c =
    let w = sym c.well_formed-2.ensures ∙ c.if-not-well_formed.false in
    let f = sym c.answers_fit.ensures ∙ c.if-not-answers_fit.false in
    (w, leb-true _ _ f)

pub returns : goal.returns
returns c =
    let w = sym c.well_formed-2.ensures ∙ c.if-not-well_formed.false in
    let f = sym c.answers_fit.ensures ∙ c.if-not-answers_fit.false in
    let d = replays _ _ _ _ _ (all-run _ _ _ _ w f _ _ _ c.execute.ensures.0 c.execute.ensures.1) in
    record { outcome = d.0; replay = d.1 }
