use Prim.Native.Nat.{ℕ, ◌+◌}
use mathlib.Core.Path.{◌≡◌, ap, ◌∙◌}
use native.Mathlib.Omega.{arith}
use Rattle.layout.specs.Bytes.{zeros, splice}
use Rattle.layout.specs.Walks.Slots.{entry_at}
use Rattle.volume.proofs.file.clear_slot.Goals as goal

pub returns : goal.returns
returns c =
    let a = c.args in
    let z : entry_at a.b a.k + 0 ≡ entry_at a.b a.k = omega arith in
    c.clear_bytes.ensures ∙ ap (λ (e : ℕ). splice a.image.now e (zeros 128)) z
