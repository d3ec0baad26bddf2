use Rattle.std.proofs.Common.{refl, arith}
use Rattle.layout.specs.Lists.{within}
use Rattle.layout.proofs.Walks.Looks.{opens-found, path-none}
use Rattle.layout.proofs.Walks.Shapes.{sound-shape}
use Rattle.layout.proofs.file.open_entry.Goals as goal

pub returns-in_default : goal.returns-in_default
returns-in_default c = path-none (within c.args.lo c.args.hi) _ _ (record { there = refl; stands = c.in_default.ensures }) refl

pub number_at-requires : goal.number_at-requires
number_at-requires c =
    let h = sound-shape c.args.image.now c.requires.sound in
    let e = c.in-Some.ensures in
    let b = (e.0.block e.1).0 in
    (omega (arith, h, b), omega arith)

pub number_at-requires-2 : goal.number_at-requires-2
number_at-requires-2 c =
    let h = sound-shape c.args.image.now c.requires.sound in
    let e = c.in-Some.ensures in
    let b = (e.0.block e.1).0 in
    (omega (arith, h, b), omega arith)

pub number_at-requires-3 : goal.number_at-requires-3
number_at-requires-3 c =
    let h = sound-shape c.args.image.now c.requires.sound in
    let e = c.in-Some.ensures in
    let b = (e.0.block e.1).0 in
    (omega (arith, h, b), omega arith)

pub returns : goal.returns
returns c =
    let e = c.in-Some.ensures in
    opens-found (within c.args.lo c.args.hi) _ _ (record { there = refl; stands = e.0 }) e.1 c.number_at.ensures c.number_at-2.ensures c.number_at-3.ensures
