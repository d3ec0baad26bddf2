use Prim.Native.Nat.{ℕ, ◌+◌}
use mathlib.Core.Path.{ap, ◌∙◌}
use native.Mathlib.Omega.{arith}
use lib.ListN.{drop, length-drop}
use Rattle.layout.specs.Walks.Paths.{first_length}
use Rattle.layout.proofs.Laws.Bytes.{part-rest}
use Rattle.layout.proofs.Walks.Paths.{first_short}
use Rattle.layout.proofs.path.part_end.Goals as goal

pub slice_bounds-part_length-count : goal.slice_bounds-part_length-count
slice_bounds-part_length-count c = c.requires

pub slice_bounds-part_length-start : goal.slice_bounds-part_length-start
slice_bounds-part_length-start c = omega arith

pub slice_bounds-part_length-end : goal.slice_bounds-part_length-end
slice_bounds-part_length-end c = omega arith

pub overflow_add-result : goal.overflow_add-result
overflow_add-result c =
    let a = c.args in
    let q = c.part_length.ensures.0 ∙ ap first_length (part-rest a.rest.now a.at) in
    let h = first_short (drop a.at a.rest.now) in
    let l = length-drop a.at a.rest.now in
    omega (arith, q, h, l, c.requires)

pub returns : goal.returns
returns c =
    let a = c.args in
    let q = c.part_length.ensures.0 ∙ ap first_length (part-rest a.rest.now a.at) in
    let h = first_short (drop a.at a.rest.now) in
    let l = length-drop a.at a.rest.now in
    (ap (λ (j : ℕ). a.at + j) q, omega (arith, q, h, l, c.requires))
