-- The reasons of a refusal by their numbers, and the number that an answer gives: 0 where the call is accepted.
use Rattle.std.specs.Prelude.{ℕ, Result, Ok, Err}
use Rattle.volume_file.specs.Refusals.{too_short, bad_header, bad_length, bad_count, bad_address, log_waits, image_length_of, journal_length_of, own_length_of}
use Rattle.volume_file.specs.declared.refusals.Refusal.{Refusal}
use Rattle.volume_file.specs.declared.refusals.Refusal.TheVariants as refusal

abbrev pub number_of : Refusal → ℕ
number_of refusal.TooShort = too_short
number_of refusal.BadHeader = bad_header
number_of refusal.BadLength = bad_length
number_of refusal.BadCount = bad_count
number_of refusal.BadAddress = bad_address
number_of refusal.LogWaits = log_waits
number_of refusal.ImageLength = image_length_of
number_of refusal.JournalLength = journal_length_of
number_of refusal.OwnLength = own_length_of

abbrev pub outcome : {T : Type 0} → Result T Refusal → ℕ
outcome (Ok given) = 0
outcome (Err why) = number_of why
