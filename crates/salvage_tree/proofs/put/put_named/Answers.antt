use native.Mathlib.Omega.{arith}
use mathlib.Core.Path.{◌∙◌}
use Rattle.layout.proofs.Walks.Fingerprints.{field-long}
use Rattle.salvage_tree.proofs.Walks.Puts.{put_as}
use Rattle.salvage_tree.proofs.put.put_named.Goals as goal

pub field_at-requires : goal.field_at-requires
field_at-requires c = omega (arith, c.requires.0.room.shape, c.requires.3)

pub copy-requires : goal.copy-requires
copy-requires c = field-long c.args.image.now c.args.b c.args.k _ c.field_at.ensures (omega (arith, c.requires.0.room.shape, c.requires.3))

pub returns : goal.returns
returns c = put_as _ _ _ _ _ _ _ _ _ _ (c.copy.ensures ∙ c.field_at.ensures) c.put_directory.ensures
