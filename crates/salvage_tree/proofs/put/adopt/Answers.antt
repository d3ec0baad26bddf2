use native.Mathlib.Omega.{arith}
use mathlib.Core.Path.{◌∙◌}
use Rattle.layout.specs.Walks.Slots.{entry_at}
use Rattle.layout.proofs.Walks.Fingerprints.{field-long}
use Rattle.salvage_tree.proofs.Walks.Puts.{adopt-done}
use Rattle.salvage_tree.proofs.put.adopt.Goals as goal

pub field_at-requires : goal.field_at-requires
field_at-requires c = omega (arith, c.requires.0.room.shape, c.requires.3)

pub put_size-requires : goal.put_size-requires
put_size-requires c = (omega (arith, c.requires.0.room.shape, c.requires.3), omega (arith, c.requires.0.sized, c.requires.3), c.requires.1.few)

pub copy-requires : goal.copy-requires
copy-requires c = field-long c.args.image.now c.args.b c.args.k _ c.field_at.ensures (omega (arith, c.requires.0.room.shape, c.requires.3))

pub returns : goal.returns
returns c = adopt-done _ _ (entry_at c.args.b c.args.k) _ _ _ _ _ _ _ _ _ c.put_size.ensures.bytes c.put_size.ensures.codes (c.copy.ensures ∙ c.field_at.ensures) c.put_directory.ensures
