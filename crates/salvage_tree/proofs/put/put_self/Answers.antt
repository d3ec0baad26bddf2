use Rattle.salvage_tree.proofs.Walks.Puts.{self-steps}
use Rattle.salvage_tree.proofs.put.put_self.Goals as goal

pub returns : goal.returns
returns c = self-steps _ _ _ _ _ _ _ _ _ _ c.put_byte.ensures c.put_number.ensures c.put_number-2.ensures c.put_number-3.ensures c.put_field.ensures
