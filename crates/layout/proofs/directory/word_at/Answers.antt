use Prim.Native.Nat.{ℕ, ◌+◌, ◌*◌, ◌%◌}
use mathlib.Core.List.{List}
use mathlib.Core.Path.{ap, ◌∙◌}
use native.Mathlib.Omega.{arith}
use Rattle.layout.specs.Bytes.{be32}
use Rattle.layout.proofs.Laws.Entries.{field-in-part}
use Rattle.layout.proofs.directory.word_at.Goals as goal

pub returns : goal.returns
returns c =
    let a = c.args in
    c.get32.ensures ∙ ap (λ (s : List ℕ). be32 s (128 * (a.k % 4) + a.at)) c.block.ensures.bytes
    ∙ field-in-part a.image.now (512 * a.b) 512 (128 * (a.k % 4)) (omega arith) (omega arith) a.at (omega arith)
