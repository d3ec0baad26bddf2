use Rattle.layout.specs.Table.{next}
use Rattle.volume.proofs.Walks.Notes.{Noting}
use Rattle.volume.proofs.notes.note_all.Given as goal

abbrev pub invariant-loop-i : goal.invariant-loop-i
invariant-loop-i l = Noting (next l.image) l.n l.notes l.i
