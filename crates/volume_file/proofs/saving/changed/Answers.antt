use Rattle.volume_file.specs.Save.{differs}
use Rattle.volume_file.proofs.saving.changed.Goals as goal

pub returns : goal.returns
unfolding differs
returns c = rw (c.equal.ensures, c.block.ensures.bytes, c.sector_of.ensures.bytes)
