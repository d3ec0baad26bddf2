use mathlib.Core.Path.{refl, sym, ◌∙◌}
use mathlib.Core.List.{[]}
use Prim.Native.Nat.{◌+◌}
use lib.ListN.{set}
use native.Mathlib.Omega.{arith}
use Rattle.layout.proofs.Laws.Bytes.{splice-cons, splice-nil}
use Rattle.lister.proofs.text.put_byte.Goals as goal

pub returns : goal.returns
returns c =
    let a = c.args in
    let s = a.out.now in
    record { buffer = sym (splice-cons s a.at a.x [] (omega arith) ∙ splice-nil (set s a.at a.x) (a.at + 1)); offset = refl }
