use mathlib.Core.Path.{◌∙◌}
use Rattle.plain_check.proofs.Walks.Tests.{taken, left}
use Rattle.plain_check.proofs.Walks.Stage4.{four-all}
use Rattle.plain_check.proofs.check.directory_ok.Goals as goal

-- src/check.rt:125:1
pub returns-then-byte-known : goal.returns-then-byte-known
returns-then-byte-known c = c.chain_ok.ensures ∙ taken _ _ _ (four-all c.args.image.now c.args.n c.args.b c.args.parent _ _ _ _ c.byte.ensures.0 c.number.ensures.0 c.number-2.ensures.0 c.number-d.ensures.0) c.if-byte-known.true

-- src/check.rt:125:1
pub returns-else-byte-known : goal.returns-else-byte-known
returns-else-byte-known c = c.if-byte-known.false ∙ left _ _ _ (four-all c.args.image.now c.args.n c.args.b c.args.parent _ _ _ _ c.byte.ensures.0 c.number.ensures.0 c.number-2.ensures.0 c.number-d.ensures.0) c.if-byte-known.false
