use Rattle.volume_file.specs.Format.{address}
use Rattle.volume_file.proofs.log.address.Goals as goal

pub returns : goal.returns
unfolding address
returns c = rw (c.get32.ensures, c.address_at.ensures)
