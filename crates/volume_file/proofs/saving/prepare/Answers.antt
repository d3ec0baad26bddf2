use Rattle.volume_file.proofs.Laws.Reasons.{some_number}
use Rattle.volume_file.proofs.Walks.Logging.{prepare-refused}
use Rattle.volume_file.proofs.saving.prepare.Goals as goal

pub returns-in-Err-clause-answer : goal.returns-in-Err-clause-answer
returns-in-Err-clause-answer c =
    let (n, (k, (a, (b, (d, e))))) = c.default.ensures in
    rw (c.number.ensures, k, a, b, d, e) (prepare-refused _ _ _ _ _ c.in-Err.ensures.number (some_number _))
