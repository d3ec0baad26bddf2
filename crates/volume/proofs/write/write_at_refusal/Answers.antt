use native.Mathlib.Omega.{arith}
use Rattle.layout.proofs.Walks.Shapes.{sound-shape}
use Rattle.volume.proofs.Walks.Write.{offset-far, room-none, room-there, blocks-for, blocks-most}
use Rattle.volume.proofs.write.write_at_refusal.Goals as goal

pub returns-then-found-offset : goal.returns-then-found-offset
returns-then-found-offset c = offset-far c.requires.1 _ _ c.if-found-offset.true

pub header_number-free-requires : goal.header_number-free-requires
header_number-free-requires c =
    let h = sound-shape c.args.image.now c.requires.0 in
    (omega arith, omega arith)

pub needed-requires : goal.needed-requires
needed-requires c =
    let p = c.requires in
    let z = blocks-for p.1.located p.1.accepted p.0 in
    let q = blocks-most p.1.located p.1.accepted p.0 in
    (omega arith, omega arith, p.2, omega arith)

pub returns-then-free-needed : goal.returns-then-free-needed
returns-then-free-needed c =
    let p = c.requires in
    room-none p.1 _ _ p.0 (omega arith) _ _ c.header_number-free.ensures c.needed.ensures c.if-free-needed.true

pub returns : goal.returns
returns c =
    let p = c.requires in
    room-there p.1 _ _ p.0 (omega arith) _ _ c.header_number-free.ensures c.needed.ensures c.if-free-needed.false
