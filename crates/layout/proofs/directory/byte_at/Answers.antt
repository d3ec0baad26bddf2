use Prim.Native.Nat.{ℕ, ◌+◌, ◌*◌, ◌%◌}
use mathlib.Core.List.{List}
use mathlib.Core.Path.{ap, ◌∙◌}
use native.Mathlib.Omega.{arith}
use lib.ListN.{get_or}
use Rattle.layout.proofs.Laws.Bytes.{get_d_part}
use Rattle.layout.proofs.directory.byte_at.Goals as goal

pub returns : goal.returns
returns c =
    let a = c.args in
    let o : ℕ = 128 * (a.k % 4) in
    c.byte_of.ensures ∙ ap (λ (s : List ℕ). get_or s (o + a.at) 0) c.block.ensures.bytes
    ∙ get_d_part a.image.now (512 * a.b) 512 (o + a.at) (omega arith) ∙ ap (λ (j : ℕ). get_or a.image.now j 0) (omega arith)
