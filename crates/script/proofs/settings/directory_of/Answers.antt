use Prim.Native.Nat.{◌+◌, ◌-◌}
use mathlib.Core.Path.{◌≡◌}
use native.Mathlib.Omega.{arith}
use Rattle.script.specs.Script.{directory_at, directory_length}
use Rattle.script.proofs.settings.directory_of.Goals as goal

pub returns : goal.returns
unfolding directory_at
returns c =
    let a = c.args in
    let e : a.at + 33 + c.directory_length.result - (a.at + 33) ≡ directory_length a.script.now a.at = omega (arith, c.directory_length.ensures) in
    rw e
