use native.Mathlib.Omega.{arith}
use Rattle.volume.proofs.Walks.Taken.{taken-growable, taken-below, taken-last}
use Rattle.volume.proofs.create_directory.take_blocks.Goals as goal

pub grow-first-requires : goal.grow-first-requires
grow-first-requires c =
    let p = c.requires in
    taken-growable c.args.image.now p.0 _ p.1 p.2

pub nth-last-requires : goal.nth-last-requires
nth-last-requires c =
    let p = c.requires in
    let grow = c.grow-first in
    (taken-below c.args.image.now p.0 _ p.1 p.2 _ grow.ensures.bytes _ grow.ensures.first, omega arith)

pub returns : goal.returns
returns c =
    let p = c.requires in
    let grow = c.grow-first in
    record { bytes = grow.ensures.bytes; first = grow.ensures.first; last = taken-last c.args.image.now p.0 _ p.1 p.2 _ grow.ensures.bytes _ grow.ensures.first _ c.nth-last.ensures }
