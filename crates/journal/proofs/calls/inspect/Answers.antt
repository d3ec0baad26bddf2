use Rattle.std.proofs.Common.{sym}
use Rattle.std.proofs.lemmas.Result.{err_from_is_err_and}
use Rattle.layout.specs.Reasons.{number_of}
use Rattle.layout.proofs.Laws.Reasons.{reason}
use Rattle.layout.proofs.Laws.Sound.{sound}
use Rattle.journal.proofs.Walks.Changes.{inspects-unsound, inspects-malformed, inspects-ready}
use Rattle.journal.proofs.calls.inspect.Goals as goal

pub returns-in_err-check : goal.returns-in_err-check
returns-in_err-check c =
    let a = c.args in
    let why = c.in_err-check.field-0.0 in
    let q = err_from_is_err_and c.from_residual.result c.from_residual.ensures.1 in
    rw (q.1, q.2) (inspects-unsound a.image.now a.journal.now (number_of why) c.in_err-check.ensures (reason why)).number_is

pub scan-requires : goal.scan-requires
scan-requires c = (sound _ (sym c.in_ok-check.ensures)).most

pub returns-in_default : goal.returns-in_default
returns-in_default c = (inspects-malformed _ _ (sym c.in_ok-check.ensures) (sym c.in_default.ensures)).number_is

pub returns : goal.returns
returns c =
    let found = c.in-Some.ensures in
    (inspects-ready _ _ (sym c.in_ok-check.ensures) (sym found.0) found.1.found, found.1.some)
