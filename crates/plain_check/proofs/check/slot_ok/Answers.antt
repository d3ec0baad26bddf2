use Rattle.plain_check.proofs.Walks.Stage5.{slot-all}
use Rattle.plain_check.proofs.check.slot_ok.Goals as goal

-- src/check.rt:242:1
pub returns : goal.returns
returns c = slot-all c.args.image.now c.args.e _ _ _ _ _ c.byte-kind.ensures.0 c.is_file.ensures c.file_ok.ensures c.is_directory.ensures c.directory_entry_ok.ensures
