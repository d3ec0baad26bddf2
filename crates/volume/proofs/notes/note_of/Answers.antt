use Rattle.volume.proofs.Walks.Notes.{note-is}
use Rattle.volume.proofs.notes.note_of.Goals as goal

pub returns : goal.returns
returns c = note-is _ _ _ c.requires.1 c.used_in.ensures.0 _ c.from.ensures
