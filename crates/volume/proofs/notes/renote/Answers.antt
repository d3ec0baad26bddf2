use Rattle.std.proofs.Common.{arith}
use Rattle.volume.proofs.Walks.Notes.{note-in-block, renoted}
use Rattle.volume.proofs.notes.renote.Goals as goal

pub returns : goal.returns
returns c =
    let a = c.args in
    renoted _ _ _ _ a.notes.now c.requires.2 (note-in-block a.image.now a.n a.i _ _ _ c.block.ensures.bytes (omega arith) (omega (arith, c.min.ensures)) c.note_of.ensures)
