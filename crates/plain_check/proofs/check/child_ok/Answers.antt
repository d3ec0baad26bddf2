use mathlib.Core.Path.{◌∙◌}
use native.Mathlib.Omega.{arith}
use Rattle.plain_check.proofs.Walks.Tests.{taken, left}
use Rattle.plain_check.proofs.Walks.Stage4.{child-all}
use Rattle.plain_check.proofs.check.child_ok.Goals as goal

pub same_name-requires : goal.same_name-requires
same_name-requires c = (omega (arith, c.number-b.ensures.1), omega (arith, c.requires.1, c.requires.0.whole, c.requires.0.high))

pub directory_ok-requires : goal.directory_ok-requires
directory_ok-requires c = (c.requires.0.high, c.number-b.ensures.1)

pub new_blocks-requires : goal.new_blocks-requires
new_blocks-requires c = (c.requires.0, c.requires.2, c.requires.3, c.number-b.ensures.1)

pub returns-then-directory_ok-told : goal.returns-then-directory_ok-told
returns-then-directory_ok-told c = c.new_blocks.ensures ∙ taken _ _ _ (child-all c.args.image.now c.args.n c.args.parent c.args.e c.args.met _ _ _ _ _ c.directory_ok.ensures c.same_name.ensures c.requires.0 c.requires.1 c.number-b.ensures.0 c.number-size.ensures.0 c.number.ensures.0) c.if-directory_ok-told.true

pub returns-else-directory_ok-told : goal.returns-else-directory_ok-told
returns-else-directory_ok-told c = c.if-directory_ok-told.false ∙ left _ _ _ (child-all c.args.image.now c.args.n c.args.parent c.args.e c.args.met _ _ _ _ _ c.directory_ok.ensures c.same_name.ensures c.requires.0 c.requires.1 c.number-b.ensures.0 c.number-size.ensures.0 c.number.ensures.0) c.if-directory_ok-told.false
