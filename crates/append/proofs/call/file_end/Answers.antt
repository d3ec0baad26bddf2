use Rattle.layout.specs.Directory.{is_file}
use Rattle.layout.proofs.Walks.Looks.{opens-why}
use Rattle.append.proofs.Laws.Turns.{opened-end}
use Rattle.append.proofs.call.file_end.Goals as goal

pub returns-in-Ok : goal.returns-in-Ok
returns-in-Ok c = opened-end c.in-Ok.ensures

pub returns-in-Err : goal.returns-in-Err
returns-in-Err c = let a = c.args in opened-end (opens-why is_file a.image.now a.path.now c.in-Err.field-0 c.in-Err.ensures)
