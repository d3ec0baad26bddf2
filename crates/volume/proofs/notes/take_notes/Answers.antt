use Rattle.std.proofs.Common.{refl, arith}
use Rattle.layout.specs.Bytes.{zeros}
use Rattle.layout.proofs.Laws.Bytes.{zeros-own}
use Rattle.volume.proofs.notes.take_notes.Goals as goal

pub note_all-requires : goal.note_all-requires
unfolding zeros
note_all-requires c =
    let e = zeros-own _ 512 refl in
    (c.requires, e.1, omega (arith, e.0, c.requires))
