use Rattle.store.proofs.Laws.Serials.{serial-path, serial-shallow}
use Rattle.store.proofs.serial.find_place.Goals as goal

pub find_place-requires : goal.find_place-requires
find_place-requires c =
    let p = c.requires in
    let e = c.path_of-path.ensures.path in
    record { sound = p.0; good = rw e (serial-path _ _ p.1); few = rw e (serial-shallow _ _ p.1) }
