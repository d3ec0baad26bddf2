use native.Mathlib.Omega.{arith}
use Rattle.volume.proofs.Walks.Grow.{take-shape, take-noted}
use Rattle.volume.proofs.table.take_noted.Goals as goal

pub take_block-requires : goal.take_block-requires
take_block-requires c =
    let t = c.requires.0 in
    (record { whole = t.whole; low = t.low; high = t.high }, t.inside, t.below, t.counted)

pub renote-requires : goal.renote-requires
renote-requires c =
    let p = c.requires in
    (take-shape p.0 _ c.take_block.ensures, omega (arith, p.0), omega (arith, p.0, p.1.room))

pub returns : goal.returns
returns c = let p = c.requires in
    let e = c.take_block.ensures in record { bytes = e; notes = take-noted p.0 p.1 _ e c.renote.ensures }
