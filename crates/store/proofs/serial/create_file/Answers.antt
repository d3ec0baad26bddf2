use Rattle.store.proofs.Laws.Serials.{serial-path}
use Rattle.store.proofs.serial.create_file.Goals as goal

pub create_at-requires : goal.create_at-requires
create_at-requires c =
    let p = c.requires in
    let e = c.path_of-path.ensures.path in
    (p.0, rw e (serial-path _ _ p.1), rw e p.2)
