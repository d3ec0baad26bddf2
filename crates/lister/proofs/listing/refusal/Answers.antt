use Rattle.std.proofs.Common.{length}
use borrow.Author.Tests.{lt-leb, le-leb}
use Rattle.lister.proofs.listing.refusal.Goals as goal

pub returns-then-image-gt-MAX_LISTED : goal.returns-then-image-gt-MAX_LISTED
returns-then-image-gt-MAX_LISTED c = rw (lt-leb (length c.args.image.now) 65536 c.if-image-gt-MAX_LISTED.true)

pub returns : goal.returns
returns c = rw (le-leb (length c.args.image.now) 65536 c.if-image-gt-MAX_LISTED.false) c.check.ensures
