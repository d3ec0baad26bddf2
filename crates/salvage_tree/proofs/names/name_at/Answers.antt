use Rattle.layout.specs.Walks.Slots.{entry_at}
use Rattle.salvage_tree.proofs.Walks.Names.{named-part}
use Rattle.salvage_tree.proofs.names.name_at.Goals as goal

pub returns : goal.returns
returns c = named-part _ (entry_at c.args.b c.args.k) _ _ c.field_at-field.ensures c.name_length.ensures.0
