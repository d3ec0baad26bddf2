use mathlib.Core.Path.{◌∙◌}
use native.Mathlib.Omega.{arith}
use Rattle.layout.proofs.Walks.Homes.{at_read, empty-read}
use Rattle.layout.proofs.Walks.Visits.{at-below}
use Rattle.layout.proofs.directory.is_empty.Goals as goal

pub number_at-d-requires : goal.number_at-d-requires
number_at-d-requires c = let h = at-below c.requires in (omega (arith, h, c.requires.shape), omega arith)

pub all_free-requires : goal.all_free-requires
all_free-requires c = at_read c.args.image.now c.args.n c.args.b _ c.number_at-d.ensures c.requires

pub returns : goal.returns
returns c =
    let D = at_read c.args.image.now c.args.n c.args.b _ c.number_at-d.ensures c.requires in
    c.all_free.ensures ∙ empty-read c.args.image.now c.args.n c.args.b _ c.number_at-d.ensures D.blocks.some
