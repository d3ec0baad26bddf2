use Rattle.volume_file.specs.Answers.{log_places}
use Rattle.volume_file.proofs.saving.log_places.Goals as goal

pub returns : goal.returns
unfolding log_places
returns c = rw (c.number_sectors.ensures, c.saved_at.ensures)
