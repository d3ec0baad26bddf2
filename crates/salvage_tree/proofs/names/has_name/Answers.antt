use Rattle.std.proofs.Common.{◌∙◌}
use Rattle.layout.specs.Walks.Slots.{entry_at}
use Rattle.layout.proofs.Walks.Fingerprints.{field-long}
use Rattle.salvage_tree.proofs.Walks.Names.{name_free, name-held}
use Rattle.salvage_tree.proofs.names.has_name.Goals as goal

pub holds_name-requires : goal.holds_name-requires
holds_name-requires c = (field-long c.args.image.now c.args.b c.args.k _ c.field_at.ensures c.requires.0, c.requires.1)

pub returns-then-type_at-ne0 : goal.returns-then-type_at-ne0
returns-then-type_at-ne0 c = name-held _ (entry_at c.args.b c.args.k) _ _ (λ z. c.if-type_at-ne0.true (c.type_at.ensures ∙ z)) c.field_at.ensures _ c.holds_name.ensures

pub returns-else-type_at-ne0 : goal.returns-else-type_at-ne0
returns-else-type_at-ne0 c = name_free _ (entry_at c.args.b c.args.k) _ _ c.type_at.ensures c.if-type_at-ne0.false
