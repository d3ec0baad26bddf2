use mathlib.Core.Path.{◌∙◌}
use native.Mathlib.Omega.{arith}
use Prim.Native.Nat.{◌+◌, ◌-◌}
use native.Mathlib.Nat.{add-zero}
use Rattle.layout.proofs.Laws.Bytes.{lent-part}
use Rattle.script.proofs.Walks.Encoding.{length-numbers}
use Rattle.script.specs.Script.{numbers}
use Rattle.script.proofs.overview.put_group.Goals as goal

pub returns : goal.returns
returns c =
    let a = c.args in
    let l = length-numbers a.n.first a.n.second a.n.third a.n.fourth in
    lent-part a.head.now a.at (a.at + 16 - a.at) 0 (numbers a.n.first a.n.second a.n.third a.n.fourth) _ c.put_numbers.ensures (omega arith) (omega (arith, l)) ∙ rw add-zero
