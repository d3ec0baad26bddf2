use mathlib.Core.Path.{ap, ◌∙◌}
use mathlib.Core.List.{List, []}
use Prim.Native.Nat.{ℕ}
use Rattle.layout.specs.Walks.Slots.{entry_at}
use Rattle.volume.specs.Write.{write_at}
use Rattle.store.specs.Settings.{encoded, added}
use Rattle.store.proofs.Laws.Put.{put-serial, put-short}
use Rattle.store.proofs.Walks.Firsts.{first-sound, first-standing, first-accepted, first-image, first-revision}
use Rattle.store.proofs.Walks.Prepares.{target-absent, target-standing, target-short, target-given, target-image, target-revision}
use Rattle.store.proofs.put.put.Goals as goal

pub create_file-requires : goal.create_file-requires
create_file-requires c =
    let p = c.requires in
    (p.0, put-serial _ _ _ _ _ p.0 p.1, (p.2.place (target-absent p.2 c.if-found-eq0.true)).0)

pub put_first-requires : goal.put_first-requires
put_first-requires c =
    let p = c.requires in
    let a = c.args in
    let none = target-absent p.2 c.if-found-eq0.true in
    let v = (p.2.place none).0 in
    let e = c.create_file.ensures in
    (rw e (first-sound a.image.now a.directory.now a.serial.now a.time a.bytes.now p.0 p.1 none _ _ _ v), rw e (first-standing a.image.now a.directory.now a.serial.now a.time a.bytes.now p.0 p.1 none _ _ _ v), put-short _ _ _ _ _ p.0 p.1, rw e (first-accepted a.image.now a.directory.now a.serial.now a.time a.bytes.now p.0 p.1 none _ _ _ v))

pub returns-then-found-eq0 : goal.returns-then-found-eq0
returns-then-found-eq0 c = let p = c.requires in
    let a = c.args in
    let none = target-absent p.2 c.if-found-eq0.true in
    let v = (p.2.place none).0 in record { revision = first-revision a.image.now a.directory.now a.serial.now a.time a.bytes.now p.0 p.1 none; bytes = c.put_first.ensures ∙ ap (λ (x : List ℕ). write_at x (entry_at a.found.block a.found.slot) 0 (encoded (added [] a.bytes.now) 0) a.time) c.create_file.ensures ∙ first-image a.image.now a.directory.now a.serial.now a.time a.bytes.now p.0 p.1 none _ _ _ v }

pub put_more-requires : goal.put_more-requires
put_more-requires c =
    let p = c.requires in
    let a = c.args in
    let some = c.if-found-eq0.false in
    (p.0, target-standing p.2 a.time a.bytes.now p.0 p.1 some, target-short p.2 a.time a.bytes.now p.0 p.1 some, target-given p.2 a.time a.bytes.now p.0 p.1 some)

pub returns : goal.returns
returns c = let p = c.requires in
    let a = c.args in
    let some = c.if-found-eq0.false in
    let q = c.put_more.ensures in record { revision = q.revision ∙ target-revision p.2 a.time a.bytes.now p.0 p.1 some; bytes = q.bytes ∙ target-image p.2 a.time a.bytes.now p.0 p.1 some }
