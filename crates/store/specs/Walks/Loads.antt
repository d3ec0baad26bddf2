-- What the code answers about a file of the store, where there may be nothing to answer.
use Rattle.std.specs.Prelude.{ℕ, List, ◌≡◌, true, Option, None, Some, MatchOption, Result, Ok, Err}
use Rattle.layout.specs.declared.refusal.Refusal.{Refusal}
use Rattle.layout.specs.Reasons.{number_of}
use Rattle.store.specs.declared.get.Taken.{Taken}
use Rattle.store.specs.Settings.{Found, broken}
use Rattle.store.specs.Get.{Which, the_latest, the_number, GetAnswer, got_answer}
use Rattle.store.specs.Walks.Forms.{Parsed}
use Rattle.store.specs.declared.form.Form.{Form}

-- the form of a file, by what is found in it and the room, or none if it is not of the form
abbrev pub Loaded : Found → List ℕ → Option Form → Type 0
Loaded found room answer = MatchOption answer (found ≡ broken) (λ f. Parsed found room true f.used f.count f.last f.oldest)

-- the revision asked for: a number names it, and none asks for the latest
abbrev pub asked_revision : Option ℕ → Which
asked_revision None = the_latest
asked_revision (Some revision) = the_number revision

-- the answer of a get: the revision and the length of its data, or the reason of its refusal, and the buffer
abbrev pub got_told : Result Taken Refusal → List ℕ → GetAnswer
got_told (Ok t) buffer = got_answer 0 t.revision t.length buffer
got_told (Err why) buffer = got_answer (number_of why) 0 0 buffer
