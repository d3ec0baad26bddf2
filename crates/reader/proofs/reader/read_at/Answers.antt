use Rattle.std.proofs.Common.{arith}
use Rattle.reader.proofs.Laws.{place-fits}
use Rattle.reader.proofs.reader.read_at.Goals as goal

pub returns-clause-place : goal.returns-clause-place
returns-clause-place c = let a = c.args in place-fits a.image.now a.path.now a.position a.buffer.now (λ i. omega (arith, c.type_inv.image i)) (omega arith)
