use native.Mathlib.Omega.{arith}
use Rattle.layout.proofs.Laws.Sound.{sound}
use Rattle.journal.proofs.naming.record_change.Goals as goal

pub record_with-requires-2 : goal.record_with-requires-2
record_with-requires-2 c =
    let p = c.requires in
    (p.0, p.1, p.2, (sound _ p.0.sound).most, omega arith)
