use Prim.Native.Nat.{ℕ, ◌*◌, ◌%◌}
use mathlib.Core.List.{List}
use mathlib.Core.Path.{ap, ◌∙◌}
use Rattle.layout.specs.Bytes.{be32}
use Rattle.layout.proofs.Walks.Chains.{entry-in-block}
use Rattle.layout.proofs.table.entry.Goals as goal

pub returns : goal.returns
returns c =
    let a = c.args in
    c.get32.ensures ∙ ap (λ (s : List ℕ). be32 s (4 * (a.b % 128))) c.block-block.ensures.bytes ∙ entry-in-block a.image.now a.b
