use borrow.Author.Tests.{lt-leb, le-leb}
use Rattle.layout.proofs.directory.is_within.Goals as goal

pub returns-then-ty-lo : goal.returns-then-ty-lo
returns-then-ty-lo c = rw (lt-leb c.args.lo c.args.ty c.if-ty-lo.true)

pub returns : goal.returns
returns c = rw (le-leb c.args.lo c.args.ty c.if-ty-lo.false)
