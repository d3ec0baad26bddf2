use borrow.Author.Tests.{lt-leb, le-leb}
use Rattle.layout.proofs.directory.is_directory.Goals as goal

pub returns-then-ty-lt32 : goal.returns-then-ty-lt32
returns-then-ty-lt32 c = rw (lt-leb 0x20 c.args.ty c.if-ty-lt32.true)

pub returns : goal.returns
returns c = rw (le-leb 0x20 c.args.ty c.if-ty-lt32.false)
