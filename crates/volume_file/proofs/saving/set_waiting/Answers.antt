use Rattle.std.proofs.Common.{refl}
use Rattle.volume_file.proofs.Laws.Reasons.{some_number}
use Rattle.volume_file.proofs.Walks.Logging.{commit-kept, commit-done, commit-long}
use Rattle.volume_file.proofs.saving.set_waiting.Goals as goal

pub returns-in_err-committable-clause-file : goal.returns-in_err-committable-clause-file
returns-in_err-committable-clause-file c = commit-kept _ _ c.in_err-committable.ensures (some_number _)

pub set_flag-requires : goal.set_flag-requires
set_flag-requires c = commit-long _ _ c.in_ok-committable.ensures refl

pub returns-clause-file : goal.returns-clause-file
returns-clause-file c = commit-done _ _ c.in_ok-committable.ensures refl _ c.set_flag.ensures
