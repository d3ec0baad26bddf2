use Prim.Native.Nat.{ℕ, ◌-◌, ◌*◌, ◌/◌}
use mathlib.Core.Path.{◌≡◌, ap, ◌∙◌}
use native.Mathlib.Omega.{arith}
use Rattle.layout.specs.Table.{next, chain}
use Rattle.layout.specs.Directory.{type_of}
use lib.ListN.{get_or}
use Rattle.layout.proofs.Walks.Slots.{entry-slot}
use Rattle.layout.proofs.Walks.Fingerprints.{slot-inside}
use Rattle.layout.proofs.visit.end_type.Goals as goal

pub overflow_sub-d : goal.overflow_sub-d
overflow_sub-d c = omega arith

pub nth-b-requires : goal.nth-b-requires
nth-b-requires c =
    let p = c.requires in
    (record { shape = p.shape; below = p.blocks.below }, omega arith)

pub overflow_mul-d : goal.overflow_mul-d
overflow_mul-d c = omega arith

pub overflow_sub-d-2 : goal.overflow_sub-d-2
overflow_sub-d-2 c = omega arith

pub type_at-requires : goal.type_at-requires
type_at-requires c =
    let a = c.args in
    let q : a.d - 1 ≡ (4 * a.d - 1) / 4 = omega arith in
    slot-inside _ _ _ _ _ (4 * a.d - 1) c.requires (omega arith) (rw q at c.nth-b.ensures)

pub returns : goal.returns
returns c =
    let a = c.args in
    let ds = chain (next a.image.now) a.first a.d in
    let q : a.d - 1 ≡ (4 * a.d - 1) / 4 = omega arith in
    c.type_at.ensures ∙ ap (λ (e : ℕ). type_of a.image.now e) (entry-slot ds _ (4 * a.d - 1) (c.nth-b.ensures ∙ ap (λ (i : ℕ). get_or ds i 0) q))
