use Rattle.std.proofs.Common.{refl, sym, ◌∙◌}
use Rattle.volume_file.proofs.Laws.Reasons.{some_number}
use Rattle.volume_file.proofs.Walks.Turns.{waiting-some, waiting_none, nothing-answered, recover-answered, recover-refused}
use Rattle.volume_file.proofs.recovery.recover.Goals as goal

pub returns-in-Ok-None-clause-answer : goal.returns-in-Ok-None-clause-answer
returns-in-Ok-None-clause-answer c =
    let (n, (w, k)) = c.default.ensures in
    let f = c.in-Ok-None.ensures in
    rw (n, w, k) (nothing-answered _ _ f.number refl (waiting_none _ (sym c.in-Ok-None.field-0-is ∙ f.sectors)))

pub returns-in-Ok-Some-clause-answer : goal.returns-in-Ok-Some-clause-answer
returns-in-Ok-Some-clause-answer c =
    let f = c.in-Ok-Some.ensures in
    let w = waiting-some _ _ (sym c.in-Ok-Some.field-0-is ∙ f.sectors) in
    recover-answered _ _ f.number refl _ _ w.0 refl w.1

pub returns-in-Err-clause-answer : goal.returns-in-Err-clause-answer
returns-in-Err-clause-answer c =
    let (n, (w, k)) = c.default-in-Err.ensures in
    rw (c.number.ensures, w, k) (recover-refused _ _ c.in-Err.ensures.number (some_number _))
