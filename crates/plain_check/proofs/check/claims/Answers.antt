use Prim.Native.Nat.{◌+◌, ◌*◌}
use mathlib.Core.Bool.{Bool, not}
use mathlib.Core.Path.{ap}
use native.Mathlib.Omega.{arith}
use Rattle.plain_check.specs.Plain.{one, answer}
use Rattle.plain_check.proofs.Walks.Tests.{times-one}
use Rattle.plain_check.proofs.check.claims.Goals as goal

pub overflow_mul-result : goal.overflow_mul-result
overflow_mul-result c = omega (arith, times-one c.args.n (not c.chain_ok.result))

pub overflow_add-result-2 : goal.overflow_add-result-2
overflow_add-result-2 c = omega (arith, times-one c.args.n (not c.chain_ok.result))

pub returns : goal.returns
unfolding answer
returns c = ((ap (λ (t : Bool). c.args.k + (c.args.n + 1) * one (not t)) c.chain_ok.ensures), omega (arith, times-one c.args.n (not c.chain_ok.result)))
