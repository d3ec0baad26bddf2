-- `resolve` calls itself on the rest of the path: the falling number is the rest's length.
use lib.ListN.{length}
use Rattle.layout.proofs.path.+resolve.Given as goal

abbrev pub decreases-resolve : goal.decreases-resolve
decreases-resolve l = length l.rest.now
