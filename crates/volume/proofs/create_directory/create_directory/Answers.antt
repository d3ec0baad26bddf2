use mathlib.Core.Path.{◌∙◌}
use native.Mathlib.Omega.{arith}
use Rattle.layout.proofs.Walks.Shapes.{sound-shape}
use Rattle.volume.proofs.Laws.Places.{create-directory-given}
use Rattle.volume.proofs.Walks.Create.{name-short}
use Rattle.volume.proofs.Walks.CreateDirectory.{directory-path, create-directory-room, create-directory-written}
use Rattle.volume.proofs.create_directory.create_directory.Goals as goal

pub take_blocks-t-requires : goal.take_blocks-t-requires
take_blocks-t-requires c =
    let p = c.requires in
    let a = c.args in
    let g = create-directory-given a.image.now a.path.now a.given.kind a.given.flags a.d p.1 in
    (p.0, g.least, g.room)

pub last_part-name-requires : goal.last_part-name-requires
last_part-name-requires c =
    let p = c.requires in
    let a = c.args in
    (create-directory-given a.image.now a.path.now a.given.kind a.given.flags a.d p.1).good

pub put_directory-requires : goal.put_directory-requires
put_directory-requires c =
    let p = c.requires in
    let a = c.args in
    let g = create-directory-given a.image.now a.path.now a.given.kind a.given.flags a.d p.1 in
    let t = c.take_blocks-t.ensures in
    let r = create-directory-room p.2 a.d p.0 g.least g.room (directory-path p.0 g) g.placed _ _ t.first t.last _ t.bytes in
    (r.0, r.1, r.2, r.3, name-short a.path.now _ g.good c.last_part-name.ensures)

pub overflow_cast-f : goal.overflow_cast-f
overflow_cast-f c =
    let p = c.requires in
    let a = c.args in
    let g = create-directory-given a.image.now a.path.now a.given.kind a.given.flags a.d p.1 in
    let t = c.take_blocks-t.ensures in
    let r = (create-directory-room p.2 a.d p.0 g.least g.room (directory-path p.0 g) g.placed _ _ t.first t.last _ t.bytes).2 in
    omega (arith, r)

pub put_slot-requires : goal.put_slot-requires
put_slot-requires c =
    let p = c.requires in
    let a = c.args in
    let g = create-directory-given a.image.now a.path.now a.given.kind a.given.flags a.d p.1 in
    let h = sound-shape a.image.now p.0 in
    (omega (arith, p.2.inside), name-short a.path.now _ g.good c.last_part-name.ensures)

pub overflow_cast-result : goal.overflow_cast-result
overflow_cast-result c = omega (arith, c.requires.2.low)

pub returns : goal.returns
returns c = let p = c.requires in
    let a = c.args in
    let g = create-directory-given a.image.now a.path.now a.given.kind a.given.flags a.d p.1 in
    let v = p.2 in
    let t = c.take_blocks-t.ensures in
    let name = c.last_part-name.ensures in
    let made = c.put_directory.ensures in record {
      slot = v.lowest;
      bytes = c.put_slot.ensures
          ∙ create-directory-written v a.d p.0 g.least g.room _ _ a.given.time _ name t.first t.last _ _ t.bytes made a.given.kind a.given.user a.given.group a.given.permissions a.given.flags _ name;
    }
