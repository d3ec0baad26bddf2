use native.Mathlib.Omega.{arith}
use Rattle.salvage.proofs.Walks.Claims.{claimed-all, claimed-none}
use Rattle.salvage.proofs.chains.claim.Goals as goal

pub returns-then-met-k : goal.returns-then-met-k
returns-then-met-k c = claimed-all _ _ _ _ _ _ _ c.walk-met.ensures c.if-met-k.true

pub returns : goal.returns
returns c =
    let unmark = c.unmark in
    let if1 = c.if-met-k in
    let walk = c.walk-met in
    let p = c.requires in
    claimed-none _ _ _ _ _ _ _ walk.ensures if1.false (omega (arith, p)) _ unmark.ensures
