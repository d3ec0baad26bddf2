use Rattle.std.proofs.Common.{arith}
use Rattle.layout.specs.Bytes.{bytes4}
use Rattle.layout.proofs.Laws.Bytes.{set4-splice}
use Rattle.volume.proofs.number.put32.Goals as goal

pub returns : goal.returns
unfolding bytes4
returns c = rw c.to_be_bytes.ensures (set4-splice c.args.s.now c.args.at _ _ _ _ (omega arith))
