-- A stage has a number that is not 0.
use Rattle.std.proofs.Common.{◌≢◌, arith}
use Rattle.plain_check.specs.declared.check.Stage.{Stage}
use Rattle.plain_check.specs.declared.check.Stage.TheVariants as stage
use Rattle.plain_check.specs.Plain.{number_of}

pub some_number : (why : Stage) → number_of why ≢ 0
some_number stage.Length = omega arith
some_number stage.Signature = omega arith
some_number stage.Numbers = omega arith
some_number stage.Directory = omega arith
some_number stage.Slot = omega arith
some_number stage.Chains = omega arith
some_number stage.Counts = omega arith
