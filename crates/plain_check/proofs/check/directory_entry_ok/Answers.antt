use Rattle.plain_check.proofs.Walks.Stage5.{entry-all}
use Rattle.plain_check.proofs.check.directory_entry_ok.Goals as goal

-- src/check.rt:233:1
pub returns : goal.returns
returns c = entry-all c.args.image.now c.args.e _ _ _ _ c.number.ensures.0 c.number-2.ensures.0 c.number-3.ensures.0 c.name_ok.ensures
