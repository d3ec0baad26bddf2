use Rattle.std.proofs.Common.{ℕ, List, subst, arith}
use Rattle.layout.specs.Looks.{used_slot}
use Rattle.layout.specs.Walks.Slots.{StandsAt}
use Rattle.layout.proofs.Walks.Homes.{at_read}
use Rattle.layout.proofs.Walks.Paths.{directory-is}
use Rattle.layout.proofs.Walks.Visits.{at-below}
use Rattle.layout.proofs.overview.used_slot.Goals as goal

pub number_at-d-requires : goal.number_at-d-requires
number_at-d-requires c = let h = at-below c.requires in (omega (arith, h, c.requires.shape), omega arith)

pub find_used-requires : goal.find_used-requires
find_used-requires c = at_read c.args.image.now c.args.n c.args.b _ c.number_at-d.ensures c.requires

pub returns : goal.returns
returns c =
    let a = c.args in
    subst (λ (ds : List ℕ). StandsAt ds a.n (used_slot a.image.now ds a.start) c.find_used.result) (directory-is a.image.now a.b _ c.number_at-d.ensures) c.find_used.ensures
