-- What is promised of all calls together (demand 3).
use mathlib.Core.Path.{refl}
use Rattle.journal.specs.Run.{step, run}
use Rattle.journal.specs.Kinds.{StandsFor, one_of}
use Rattle.journal.proofs.Laws.Kinds.{one-of, one-tells}
use Rattle.journal.specs.Replay.{standing_after, standing}
use Rattle.journal.specs.Back.{KindBackTheorem, TellsRight}
use Rattle.journal.proofs.Theorems.{every-kind-run, undone-all-kinds, undone-counted-kinds}
use Rattle.write_list.proofs.Laws.Runs.{lists-stand, lists-told}
use Rattle.append.proofs.Laws.Runs.{pieces-stand, pieces-told}
use Rattle.chain_table.proofs.Laws.Runs.{transfers-stand, transfers-told}
use Rattle.back.proofs.Laws.Runs.{infos-stand, backs-stand, infos-told, backs-told}
use Rattle.back.proofs.Theorems as back
use Rattle.bulgefs.specs.Saves.{EveryLifeTheorem, SaveAcceptedTheorem}
use Rattle.bulgefs.proofs.Saves.{life-kept, accepted}
use Rattle.bulgefs.specs.Runs.{FurtherKind, list, append, read_on, table, journal_info, undo_to, readings, kind_of, tell_of, EveryRunTheorem, EveryCountTheorem, EveryInfoTheorem, EveryStartTheorem, EveryMarkTheorem, EveryNeverBelowTheorem}

readings-stand : StandsFor readings
unfolding run step
readings-stand p m r f = refl

kinds-stand : (i : FurtherKind) → StandsFor (kind_of i)
kinds-stand list = lists-stand
kinds-stand append = pieces-stand
kinds-stand read_on = readings-stand
kinds-stand table = transfers-stand
kinds-stand journal_info = infos-stand
kinds-stand undo_to = backs-stand

-- EVERY RUN OF CALLS, of any kinds in any order: image and whole journal are those of the replay of the standing changes, every answer is the replay's.
pub every-run : EveryRunTheorem
every-run = every-kind-run (one_of kind_of) (one-of kind_of kinds-stand)

-- After every such run, as many undos as changes stand give image and whole journal of the start.
pub undone-all : KindBackTheorem (one_of kind_of)
undone-all = undone-all-kinds (one_of kind_of) (one-of kind_of kinds-stand)

readings-told : TellsRight readings (tell_of read_on)
unfolding standing standing_after
readings-told start changes r = refl

kinds-told : (i : FurtherKind) → TellsRight (kind_of i) (tell_of i)
kinds-told list = lists-told
kinds-told append = pieces-told
kinds-told read_on = readings-told
kinds-told table = transfers-told
kinds-told journal_info = infos-told
kinds-told undo_to = backs-told

-- As many as a program counts by its answers do it too: one more at a change that answers 0, one less at an undo that answers 0, as many more as a list did, one
-- more at an append with a record's length, as many less as an undo to a mark took back.
pub undone-counted : EveryCountTheorem
undone-counted = undone-counted-kinds (one_of kind_of) (one-of kind_of kinds-stand) (λ k r. tell_of r.0 k r.1) (one-tells kind_of tell_of kinds-told)

-- After every such run, an info of the journal answers 0 and as many records as changes stand.
pub all_told : EveryInfoTheorem
all_told = back.all_told (one_of kind_of) (one-of kind_of kinds-stand)

-- BACK IN ONE CALL: after every such run, undo to 5 gives image and whole journal of the start, and says how many changes stood; undo to the mark that an info
-- answered at a moment of the run, if the changes that stood then still stand, gives image and whole journal of that moment.
pub start-again : EveryStartTheorem
start-again = back.start-again (one_of kind_of) (one-of kind_of kinds-stand)

pub moment-again : EveryMarkTheorem
moment-again = back.moment-again (one_of kind_of) (one-of kind_of kinds-stand)

-- They still stand where, since that moment, never fewer changes stood than at it.
pub never-below : EveryNeverBelowTheorem
never-below = back.never-below (one_of kind_of) (one-of kind_of kinds-stand)

-- SAVED WHOLE OR NOT AT ALL: whatever calls are made, whenever the pair is saved, and wherever power fails, the recovered file holds the pair of a moment at
-- which a save was made or cut, and one undo gives back the pair of the beginning, byte for byte.
pub every-life : EveryLifeTheorem
every-life begun b p file saved l = life-kept start-again begun b p file saved l

-- And a save is never refused.
pub save-accepted : SaveAcceptedTheorem
save-accepted begun b p file saved l own o = accepted start-again begun b every-run p file saved l own o
