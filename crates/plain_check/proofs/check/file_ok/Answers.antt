use Rattle.plain_check.proofs.Walks.Stage5.{file-all}
use Rattle.plain_check.proofs.check.file_ok.Goals as goal

-- src/check.rt:219:1
pub returns : goal.returns
returns c = file-all c.args.image.now c.args.e _ _ _ _ _ _ c.number-size.ensures.0 c.number-a.ensures.0 c.number-k.ensures.0 c.number.ensures.0 c.number-2.ensures.0 c.name_ok.ensures
