use Prim.Native.Nat.{ℕ, ◌+◌, ◌-◌, ◌*◌, ◌/◌, ◌%◌}
use mathlib.Core.Path.{◌≡◌, ap, ◌∙◌}
use native.Mathlib.Omega.{arith}
use Rattle.layout.specs.Bytes.{bytes4, splice}
use Rattle.layout.specs.Table.{set_next}
use Rattle.layout.proofs.Laws.Bytes.{length-bytes4, lent-part}
use Rattle.volume.proofs.table.set_entry.Goals as goal

pub returns : goal.returns
unfolding set_next
returns c =
    let a = c.args in
    let at : ℕ = 512 * (1 + a.b / 128) in
    let e : 512 * (1 + a.b / 128) + 4 * (a.b % 128) ≡ 512 + 4 * a.b = omega arith in
    lent-part a.image.now at (at + 512 - at) (4 * (a.b % 128)) (bytes4 a.v) _ c.put32.ensures (omega arith)
    (omega (arith, length-bytes4 a.v)) ∙ ap (λ (x : ℕ). splice a.image.now x (bytes4 a.v)) e
