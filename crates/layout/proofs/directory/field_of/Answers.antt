use Prim.Native.Nat.{ℕ, ◌+◌, ◌-◌}
use mathlib.Core.Path.{◌≡◌, ap}
use native.Mathlib.Omega.{arith}
use Rattle.layout.specs.Bytes.{part}
use Rattle.layout.proofs.directory.field_of.Goals as goal

pub returns : goal.returns
returns c =
    let a = c.args in
    let e : (a.o + 48 + 80) - (a.o + 48) ≡ 80 = omega arith in
    ap (λ (x : ℕ). part a.block.now (a.o + 48) x) e
