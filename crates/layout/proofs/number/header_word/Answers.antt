use Prim.Native.Nat.{ℕ}
use mathlib.Core.List.{List}
use mathlib.Core.Path.{ap, ◌∙◌}
use native.Mathlib.Omega.{arith}
use native.Mathlib.Nat.{zero-add}
use Rattle.layout.specs.Bytes.{be32}
use Rattle.layout.proofs.Laws.Bytes.{be32-part}
use Rattle.layout.proofs.number.header_word.Goals as goal

pub returns : goal.returns
returns c =
    let a = c.args in
    c.get32.ensures ∙ ap (λ (s : List ℕ). be32 s a.at) c.block.ensures.bytes ∙ be32-part a.image.now 0 512 a.at (omega arith) ∙ rw zero-add
