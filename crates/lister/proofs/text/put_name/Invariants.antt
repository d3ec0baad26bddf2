use Rattle.std.proofs.Common.{drop}
use Rattle.layout.specs.Directory.{unpadded}
use Rattle.layout.specs.Listing.{printed}
use Rattle.lister.proofs.Pieces.{Pending}
use Rattle.lister.proofs.text.put_name.Given as goal

abbrev pub invariant-loop-x : goal.invariant-loop-x
invariant-loop-x l = Pending l.initial.out l.at (printed (unpadded l.field)) l.out l.p (printed (unpadded (drop l.x-index l.field)))
