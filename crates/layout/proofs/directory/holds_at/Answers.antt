use Prim.Native.Nat.{ℕ, ◌*◌, ◌%◌}
use mathlib.Core.Bool.{◌&&◌}
use mathlib.Core.List.{List}
use mathlib.Core.Path.{ap, ◌∙◌}
use native.Mathlib.Omega.{arith}
use Rattle.layout.specs.Lists.{within, same}
use Rattle.layout.proofs.Laws.Entries.{named-in-part}
use Rattle.layout.specs.Directory.{type_of, name_of}
use Rattle.layout.proofs.directory.holds_at.Goals as goal

pub returns : goal.returns
returns c =
    let a = c.args in
    let o : ℕ = 128 * (a.k % 4) in
    c.slot_holds.ensures ∙ ap (λ (s : List ℕ). within a.lo a.hi (type_of s o) && same (name_of s o) a.name.now) c.block.ensures.bytes
    ∙ named-in-part a.image.now (512 * a.b) 512 o (omega arith) (omega arith) (within a.lo a.hi) (λ x. same x a.name.now)
