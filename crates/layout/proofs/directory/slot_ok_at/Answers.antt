use Prim.Native.Nat.{ℕ, ◌*◌, ◌%◌}
use mathlib.Core.List.{List}
use mathlib.Core.Path.{ap, ◌∙◌}
use native.Mathlib.Omega.{arith}
use Rattle.layout.specs.Check.{slot_ok}
use Rattle.layout.proofs.Laws.Entries.{slot_ok-in-part}
use Rattle.layout.proofs.directory.slot_ok_at.Goals as goal

pub returns : goal.returns
returns c =
    let a = c.args in
    c.slot_ok.ensures ∙ ap (λ (s : List ℕ). slot_ok s (128 * (a.k % 4))) c.block.ensures.bytes
    ∙ slot_ok-in-part a.image.now (512 * a.b) 512 (128 * (a.k % 4)) (omega arith) (omega arith)
