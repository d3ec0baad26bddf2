use Rattle.std.proofs.Common.{arith}
use Rattle.layout.proofs.Walks.Homes.{spotted-used-at}
use Rattle.layout.proofs.path.follow_used.Goals as goal

pub returns : goal.returns
returns c = spotted-used-at c.args.image.now c.args.path.now (λ i. omega (arith, c.type_inv.image i)) c.follow_path.result c.follow_path.ensures
