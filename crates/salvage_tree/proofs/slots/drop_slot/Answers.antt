use Rattle.salvage_tree.proofs.slots.drop_slot.Goals as goal

pub returns : goal.returns
returns c = record { bytes = c.clear_slot.ensures; codes = c.put_code.ensures }
