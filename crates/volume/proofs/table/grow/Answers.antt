use native.Mathlib.Omega.{arith}
use Rattle.volume.proofs.Walks.Grow.{grow-none, search-zero, search-all}
use Rattle.volume.proofs.table.grow.Goals as goal

pub returns-then-count-eq0 : goal.returns-then-count-eq0
returns-then-count-eq0 c = let g = grow-none _ _ _ _ _ c.if-count-eq0.true in record { bytes = g.0; first = g.1 }

pub take_notes-notes-requires : goal.take_notes-notes-requires
take_notes-notes-requires c = c.requires.shape

pub search-first-requires : goal.search-first-requires
search-first-requires c = (c.requires.shape, c.take_notes-notes.ensures.room)

pub take_lowest-requires : goal.take_lowest-requires
take_lowest-requires c =
    let take-notes = c.take_notes-notes in
    let p = c.requires in
    (p, take-notes.ensures, search-zero _ _ _ (omega (arith, c.if-count-eq0.false)) take-notes.result _ p.enough take-notes.ensures c.search-first.ensures)

pub returns : goal.returns
returns c = let take-notes = c.take_notes-notes in
    let p = c.requires in record { bytes = c.take_lowest.ensures; first = search-all _ _ _ (omega (arith, c.if-count-eq0.false)) take-notes.result _ p.enough take-notes.ensures c.search-first.ensures }
