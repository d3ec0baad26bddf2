use Prim.Native.Nat.{◌+◌, ◌-◌}
use mathlib.Core.Path.{◌≡◌}
use native.Mathlib.Omega.{arith}
use Rattle.script.specs.Script.{name_at, name_length}
use Rattle.script.proofs.items.name_of.Goals as goal

pub returns : goal.returns
unfolding name_at
returns c =
    let a = c.args in
    let e : a.at + 33 + c.get32.result - (a.at + 33) ≡ name_length a.script.now a.at = omega (arith, c.get32.ensures) in
    rw e
