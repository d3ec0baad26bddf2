use Prim.Native.Nat.{ℕ, ◌+◌, ◌*◌, ◌%◌}
use mathlib.Core.List.{List}
use mathlib.Core.Path.{refl, ap, ◌∙◌}
use Rattle.layout.specs.Bytes.{part}
use Rattle.layout.proofs.Walks.Fingerprints.{field-in-block}
use Rattle.layout.proofs.directory.field_at.Goals as goal

pub returns : goal.returns
returns c =
    let a = c.args in
    c.field_of.ensures ∙ ap (λ (s : List ℕ). part s (128 * (a.k % 4) + 48) 80) c.block.ensures.bytes
    ∙ field-in-block a.image.now a.b a.k 512 c.requires refl
