use Rattle.script.specs.Script.{answer_size}
use Rattle.script.proofs.Walks.Making.{item-put, change-made}
use Rattle.script.proofs.runner.put_in.Goals as goal

pub returns : goal.returns
unfolding answer_size
returns c =
    let put-numbers = c.put_numbers in
    let changed-numbers = c.changed_numbers in
    let made = c.put_settings_in-c in
    let get64 = c.get64-time in
    let data_of = c.data_of-bytes in
    let serial-of = c.serial_of-serial in
    let directory-of = c.directory_of-directory in
    let p = c.requires in
    let call = item-put _ _ _ _ _ _ directory-of.ensures serial-of.ensures get64.ensures data_of.ensures in
    change-made _ _ _ _ _ _ _ _ _ _ changed-numbers.ensures put-numbers.ensures _ _ call p.1 made.ensures.answer made.ensures.state
