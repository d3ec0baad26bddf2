use Prim.Native.Nat.{ℕ}
use native.Mathlib.Omega.{arith}
use mathlib.Core.Path.{sym, ap, ◌∙◌}
use mathlib.Core.List.{◌∷◌}
use lib.ListN.{length, length-set}
use Rattle.layout.specs.Bytes.{bytes4}
use Rattle.layout.proofs.Laws.Bytes.{splice-cons, length-splice, length-bytes4}
use Rattle.store.proofs.form.put_start.Goals as goal

pub put32-requires : goal.put32-requires
put32-requires c = let a = c.args in omega (arith, length-set {A = ℕ} a.room.now a.at a.first)

pub returns : goal.returns
returns c =
    let a = c.args in
    c.put32.ensures ∙ sym (splice-cons a.room.now a.at a.first (bytes4 a.number) (omega (arith, length-bytes4 a.number)))

pub shape_of-room : goal.shape_of-room
shape_of-room c =
    let a = c.args in
    ap length (c.put32.ensures ∙ sym (splice-cons a.room.now a.at a.first (bytes4 a.number) (omega (arith, length-bytes4 a.number)))) ∙ length-splice a.room.now a.at (a.first ∷ bytes4 a.number) (omega (arith, length-bytes4 a.number))
