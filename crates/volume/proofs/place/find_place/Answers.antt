use Rattle.std.proofs.Common.{refl, sym}
use Rattle.volume.proofs.Walks.Places.{home-none, name-taken, home_at, slots-full, place_found, spotted-some, spotted-free}
use Rattle.layout.proofs.Walks.Homes.{spotted-none}
use Rattle.layout.specs.Directory.{is_used}
use Rattle.volume.proofs.place.find_place.Goals as goal

pub returns-in_default : goal.returns-in_default
returns-in_default c =
    let a = c.args in
    home-none (spotted-none a.image.now a.path.now c.requires is_used 0 (sym c.in_default.ensures) refl) refl

pub returns-then-is_some : goal.returns-then-is_some
returns-then-is_some c =
    let e = c.in-Some.ensures in
    let t = spotted-some is_used _ _ c.in-Some.spot e c.if-is_some.ensures in
    name-taken t.2 e.1 t.3

pub free_slot-requires : goal.free_slot-requires
free_slot-requires c =
    let e = c.in-Some.ensures in
    home_at (spotted-free is_used _ _ c.in-Some.spot e c.if-is_some.ensures) e.1 c.requires

pub returns-in_default-free_slot : goal.returns-in_default-free_slot
returns-in_default-free_slot c =
    let e = c.in-Some.ensures in
    slots-full (spotted-free is_used _ _ c.in-Some.spot e c.if-is_some.ensures) e.1 refl c.in_default-free_slot.ensures refl

pub returns : goal.returns
returns c =
    let e = c.in-Some.ensures in
    let f = c.in-Some-free_slot.ensures in
    place_found (spotted-free is_used _ _ c.in-Some.spot e c.if-is_some.ensures) e.1 refl f.0 f.1
