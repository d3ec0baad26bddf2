use Rattle.store.proofs.Walks.Rewriting.{dropped-most}
use Rattle.store.specs.Walks.Forms.{length_after}
use native.Mathlib.Omega.{arith}
use Prim.Native.Nat.{ℕ, ◌+◌, ◌-◌}
use mathlib.Core.Path.{ap}
use Rattle.store.proofs.form.length_after.Goals as goal

pub overflow_sub-result : goal.overflow_sub-result
overflow_sub-result c = omega (arith, c.dropped.ensures, dropped-most c.args.form.count c.args.form.oldest c.args.form.used c.requires.0)

pub returns : goal.returns
unfolding length_after
returns c = ap (λ (d : ℕ). c.args.form.used - d + 5 + c.args.size) c.dropped.ensures
