use Prim.Native.Nat.{◌+◌, ◌-◌}
use mathlib.Core.Path.{◌≡◌}
use native.Mathlib.Omega.{arith}
use Rattle.script.specs.Script.{serial_at, name_length, directory_length}
use Rattle.script.proofs.settings.serial_of.Goals as goal

pub returns : goal.returns
unfolding serial_at
returns c =
    let a = c.args in
    let k = c.directory_length in
    let e : a.at + 33 + c.get32.result - (a.at + 33 + k.result) ≡ name_length a.script.now a.at - directory_length a.script.now a.at = omega (arith, k.ensures, c.get32.ensures) in
    rw (e, k.ensures)
