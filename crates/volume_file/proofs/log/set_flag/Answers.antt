use Rattle.std.proofs.Common.{refl}
use Rattle.volume_file.proofs.Walks.Turns.{flagged-made}
use Rattle.volume_file.proofs.log.set_flag.Goals as goal

pub returns : goal.returns
returns c = flagged-made c.args.file.now _ _ c.args.b 511 c.requires refl (c.fill.ensures.after (λ y e. e)) refl
