use borrow.Author.Tests.{lt-leb, le-leb}
use Rattle.layout.proofs.directory.is_file.Goals as goal

pub returns-then-ty-lt96 : goal.returns-then-ty-lt96
returns-then-ty-lt96 c = rw (lt-leb 0x60 c.args.ty c.if-ty-lt96.true)

pub returns : goal.returns
returns c = rw (le-leb 0x60 c.args.ty c.if-ty-lt96.false)
