use Rattle.std.proofs.Common.{ap, ◌∙◌}
use Rattle.layout.specs.Walks.Names.{fingerprint}
use Rattle.layout.proofs.Walks.Fingerprints.{field-long}
use Rattle.salvage.proofs.slots.fingerprint_at.Goals as goal

pub fingerprint-requires : goal.fingerprint-requires
fingerprint-requires c = field-long c.args.image.now c.args.b c.args.k _ c.field_at.ensures c.requires

pub returns : goal.returns
returns c = c.fingerprint.ensures ∙ ap fingerprint c.field_at.ensures
