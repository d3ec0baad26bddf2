use Prim.Native.Nat.{◌/◌}
use lib.ListN.{length}
use native.Mathlib.Omega.{arith}
use Rattle.journal.specs.Journal.{used}
use Rattle.layout.proofs.Laws.Sound.{sound}
use Rattle.journal.proofs.Laws.Append.{well}
use Rattle.journal.proofs.Walks.Marked.{marked-few}
use Rattle.journal.proofs.Walks.Changes.{marks-ready, not-recorded, now-recorded}
use Rattle.journal.proofs.recording.record_marked.Goals as goal

pub record_size-size-requires : goal.record_size-size-requires
record_size-size-requires c = (c.requires.1, (sound _ c.requires.0.sound).most)

pub get32-used-requires : goal.get32-used-requires
get32-used-requires c = (well _ _ c.requires.0.well-formed).long

pub overflow_add-used : goal.overflow_add-used
overflow_add-used c =
    let a = c.args in
    let z = sound a.image.now c.requires.0.sound in
    omega (arith, marked-few a.marks.now (length a.image.now / 512), c.record_size-size.ensures, z.most)

pub returns-then-journal-used : goal.returns-then-journal-used
unfolding used
returns-then-journal-used c =
    let record-size = c.record_size-size in
    let p = c.requires in
    record { recorded = not-recorded _ _ _ p.0 _ record-size.ensures (omega (arith, c.get32-used.ensures, c.if-journal-used.true)); some = tt }

pub add_record-requires : goal.add_record-requires
unfolding used
add_record-requires c =
    let get32 = c.get32-used in
    let record-size = c.record_size-size in
    let p = c.requires in
    let w = well _ _ p.0.well-formed in
    record { marks = (marks-ready _ _ _ p.0 p.1, record-size.ensures); bound = (w.used_low, omega (arith, get32.ensures, c.if-journal-used.false), w.short) }

pub overflow_cast-result : goal.overflow_cast-result
unfolding used
overflow_cast-result c =
    let w = well _ _ c.requires.0.well-formed in
    omega (arith, c.if-journal-used.false, w.short)

pub returns : goal.returns
unfolding used
returns c =
    let add-record = c.add_record in
    let if1 = c.if-journal-used in
    let get32 = c.get32-used in
    let record-size = c.record_size-size in
    let p = c.requires in
    record { recorded = now-recorded _ _ _ p.0 _ record-size.ensures (omega (arith, get32.ensures, if1.false)) _ add-record.ensures; some = λ z. omega (arith, record-size.ensures) }
