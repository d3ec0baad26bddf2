use Rattle.store.proofs.Walks.Rewriting.{record-put}
use Rattle.store.proofs.form.put_record.Goals as goal

pub returns : goal.returns
returns c = record-put _ _ _ _ _ _ c.requires.0 c.put_start.ensures c.copy_part.ensures
