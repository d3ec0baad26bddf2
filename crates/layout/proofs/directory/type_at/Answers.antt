use Prim.Native.Nat.{ℕ, ◌*◌, ◌%◌}
use mathlib.Core.List.{List}
use mathlib.Core.Path.{ap, ◌∙◌}
use native.Mathlib.Omega.{arith}
use Rattle.layout.specs.Directory.{type_of}
use Rattle.layout.proofs.Laws.Entries.{type-in-part}
use Rattle.layout.proofs.directory.type_at.Goals as goal

pub returns : goal.returns
returns c =
    let a = c.args in
    c.byte_of.ensures ∙ ap (λ (s : List ℕ). type_of s (128 * (a.k % 4))) c.block.ensures.bytes
    ∙ type-in-part a.image.now (512 * a.b) 512 (128 * (a.k % 4)) (omega arith) (omega arith)
