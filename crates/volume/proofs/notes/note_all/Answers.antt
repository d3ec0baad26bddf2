use Rattle.std.proofs.Common.{arith}
use Rattle.volume.proofs.Walks.Notes.{noting, note-turn, all_noted}
use Rattle.volume.proofs.notes.note_all.Goals as goal

pub loop-i-init : goal.loop-i-init
loop-i-init c = noting _ _ _ c.requires.1

pub loop-i-preserved : goal.loop-i-preserved
loop-i-preserved c = note-turn c.loop-i.invariant _ c.renote.ensures

pub returns : goal.returns
returns c = all_noted c.loop-i.invariant (omega arith) (omega arith)
