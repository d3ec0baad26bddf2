-- What running a script gives, for each case.
use Rattle.std.specs.Prelude.{Result, Ok, Err}
use Rattle.script.specs.declared.runner.NotRun.{NotRun}
use Rattle.script.specs.declared.runner.NotRun.TheVariants as not_run
use Rattle.script.specs.Script.{Status, done, malformed, no_room}

-- What running a script gives has no number: the numbers are those of the rules.
abbrev pub ran_status : {T : Type 0} → Result T NotRun → Status
ran_status (Ok given) = done
ran_status (Err not_run.Malformed) = malformed
ran_status (Err not_run.NoRoom) = no_room
