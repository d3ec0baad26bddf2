-- A reason has a number that is not 0; and what an answer says once its reason is left out.
use Rattle.std.proofs.Common.{ℕ, ◌≡◌, ◌≢◌, Result, Ok, Err, Some, None, arith}
use Rattle.volume_file.specs.declared.refusals.Refusal.{Refusal}
use Rattle.volume_file.specs.declared.refusals.Refusal.TheVariants as refusal
use Rattle.std.specs.Result.{result_ok}
use Rattle.volume_file.specs.Reasons.{number_of, outcome}

pub some_number : (why : Refusal) → number_of why ≢ 0
some_number refusal.TooShort = omega arith
some_number refusal.BadHeader = omega arith
some_number refusal.BadLength = omega arith
some_number refusal.BadCount = omega arith
some_number refusal.BadAddress = omega arith
some_number refusal.LogWaits = omega arith
some_number refusal.ImageLength = omega arith
some_number refusal.JournalLength = omega arith
some_number refusal.OwnLength = omega arith

pub none-refused : (r : Result ℕ Refusal) → None ≡ result_ok r → outcome r ≢ 0
none-refused (Ok h) e = cc
none-refused (Err why) e = some_number why

pub some-accepted : (r : Result ℕ Refusal) (h : ℕ) → Some h ≡ result_ok r → r ≡ Ok h
some-accepted (Ok k) h e = cc
some-accepted (Err why) h e = cc
