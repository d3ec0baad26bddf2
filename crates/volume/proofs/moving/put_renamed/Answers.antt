use Prim.Native.Nat.{◌+◌, ◌-◌}
use mathlib.Core.Path.{◌∙◌}
use native.Mathlib.Omega.{arith}
use Rattle.layout.proofs.Laws.Bytes.{lent}
use Rattle.volume.proofs.Walks.Move.{length-renamed}
use Rattle.volume.proofs.moving.put_renamed.Goals as goal

-- src/moving.rt:136:1
pub returns : goal.returns
returns c =
    let a = c.args in
    let p = c.requires in
    let l = length-renamed a.head.now a.name.now p.1 p.2 in
    lent a.block.now a.o (a.o + 128 - a.o) _ _ c.fill_renamed.ensures (l ∙ omega arith)
