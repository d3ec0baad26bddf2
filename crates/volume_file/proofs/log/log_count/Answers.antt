use Rattle.volume_file.specs.Format.{log_count}
use Rattle.volume_file.proofs.log.log_count.Goals as goal

pub returns : goal.returns
unfolding log_count
returns c = rw (c.get32.ensures, c.requires.2)
