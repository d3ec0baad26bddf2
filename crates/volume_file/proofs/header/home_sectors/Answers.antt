use Rattle.volume_file.specs.Format.{home_sectors}
use Rattle.volume_file.proofs.header.home_sectors.Goals as goal

pub returns : goal.returns
unfolding home_sectors
returns c = rw (c.home.ensures, c.told.ensures.image, c.told.ensures.journal, c.told.ensures.own, c.block.ensures.bytes)
