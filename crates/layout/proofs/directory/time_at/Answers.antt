use Prim.Native.Nat.{ℕ, ◌+◌, ◌*◌, ◌%◌}
use mathlib.Core.List.{List}
use mathlib.Core.Path.{ap, ◌∙◌}
use native.Mathlib.Omega.{arith}
use Rattle.layout.specs.Bytes.{be64}
use Rattle.layout.proofs.Walks.Listed.{be64-part}
use Rattle.layout.proofs.directory.time_at.Goals as goal

pub returns : goal.returns
returns c =
    let a = c.args in
    let o : ℕ = 128 * (a.k % 4) in
    c.get64.ensures ∙ ap (λ (s : List ℕ). be64 s (o + a.at)) c.block.ensures.bytes
    ∙ be64-part a.image.now (512 * a.b) 512 (o + a.at) (omega arith) ∙ ap (λ (j : ℕ). be64 a.image.now j) (omega arith)
