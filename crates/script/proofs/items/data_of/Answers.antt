use Prim.Native.Nat.{◌+◌, ◌-◌}
use mathlib.Core.Path.{◌≡◌}
use native.Mathlib.Omega.{arith}
use Rattle.script.specs.Script.{data_at, data_length}
use Rattle.script.proofs.items.data_of.Goals as goal

pub returns : goal.returns
unfolding data_at
returns c =
    let get32 = c.get32 in
    let a = c.args in
    let e : a.at + 33 + get32.result + c.get32-2.result - (a.at + 33 + get32.result) ≡ data_length a.script.now a.at = omega (arith, c.get32-2.ensures) in
    rw (e, get32.ensures)
