-- The answers of the calls that are lent a journal: the paper's number, slot and record length of an accepted and of a refused call.
use Rattle.std.specs.Prelude.{ℕ, Result, Ok, Err}
use Rattle.layout.specs.declared.refusal.Refusal.{Refusal}
use Rattle.layout.specs.Reasons.{number_of}
use Rattle.journal.specs.declared.calls.Changed.{Changed}
use Rattle.journal.specs.Run.{Answer, changed, undone}

abbrev pub changed_answer : Result Changed Refusal → Answer
changed_answer (Ok c) = changed 0 c.slot c.size
changed_answer (Err why) = changed (number_of why) 0 0

abbrev pub undone_answer : Result ℕ Refusal → Answer
undone_answer (Ok size) = undone 0 size
undone_answer (Err why) = undone (number_of why) 0
