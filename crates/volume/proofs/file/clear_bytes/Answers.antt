use Prim.Native.Nat.{ℕ, ◌*◌, ◌+◌, ◌-◌, ◌%◌}
use mathlib.Core.Path.{◌≡◌, ap, ◌∙◌}
use native.Mathlib.Omega.{arith}
use Rattle.layout.specs.Bytes.{zeros, splice}
use Rattle.layout.proofs.Laws.Bytes.{length-zeros, lent-part}
use Rattle.volume.proofs.file.clear_bytes.Goals as goal

pub returns : goal.returns
returns c =
    let clear-part = c.clear_part in
    let a = c.args in
    let z : 512 * a.b + (128 * (a.k % 4) + a.at) ≡ 512 * a.b + 128 * (a.k % 4) + a.at = omega arith in
    lent-part a.image.now (512 * a.b) ((512 * a.b + 512) - 512 * a.b) (128 * (a.k % 4) + a.at) (zeros a.count) _ clear-part.ensures (omega arith)
    (omega (arith, length-zeros a.count))
    ∙ ap (λ (x : ℕ). splice a.image.now x (zeros a.count)) z
