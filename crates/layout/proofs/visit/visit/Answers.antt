use Rattle.layout.proofs.Laws.Bytes.{zeros-own}
use Rattle.layout.proofs.visit.visit.Goals as goal

pub visit_with-requires : goal.visit_with-requires
visit_with-requires c =
    let prints = zeros-own _ _ c.no_slots-prints.ensures in
    let places = zeros-own _ _ c.no_slots-places.ensures in
    let seen = zeros-own _ _ c.no_names-seen.ensures in
    (c.requires, record { prints-room = prints.0; places-room = places.0; seen-room = seen.0 })
