use Rattle.std.proofs.Common.{ℕ, List, subst, arith}
use Rattle.layout.specs.Walks.Slots.{StandsAt}
use Rattle.layout.proofs.Walks.Paths.{directory-is}
use Rattle.volume.specs.Move.{open_slot}
use Rattle.layout.proofs.Walks.Homes.{at_read}
use Rattle.layout.proofs.Walks.Visits.{at-below}
use Rattle.volume.proofs.moving.open_slot.Goals as goal

pub number_at-d-requires : goal.number_at-d-requires
number_at-d-requires c =
    let h = at-below c.requires in
    (omega (arith, h, c.requires.shape), omega arith)

pub find_open-requires : goal.find_open-requires
find_open-requires c = at_read c.args.image.now c.args.n c.args.b _ c.number_at-d.ensures c.requires

pub returns : goal.returns
returns c =
    let a = c.args in
    subst (λ (ds : List ℕ). StandsAt ds a.n (open_slot a.image.now ds a.own) c.find_open.result) (directory-is a.image.now a.b _ c.number_at-d.ensures) c.find_open.ensures
