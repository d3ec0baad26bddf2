use native.Mathlib.Omega.{arith}
use Rattle.write_list.proofs.Laws.Items.{item}
use Rattle.write_list.specs.List.{path_at}
use mathlib.Core.Path.{◌≡◌}
use Prim.Native.Nat.{◌+◌, ◌-◌}
use Rattle.write_list.proofs.list.path_of.Goals as goal

pub overflow_add-a : goal.overflow_add-a
overflow_add-a c =
    let i = item _ _ c.requires in
    omega (arith, i.ends, i.room)

pub path_length-requires : goal.path_length-requires
path_length-requires c =
    let i = item _ _ c.requires in
    omega (arith, i.ends, i.room)

pub overflow_add-e : goal.overflow_add-e
overflow_add-e c =
    let i = item _ _ c.requires in
    omega (arith, i.ends, i.room, c.path_length.ensures.0)

pub slice_bounds-result-end : goal.slice_bounds-result-end
slice_bounds-result-end c =
    let i = item _ _ c.requires in
    omega (arith, i.ends, i.room, c.path_length.ensures.0)

pub returns : goal.returns
unfolding path_at
returns c =
    let a = c.args in
    let e : a.at + 18 + c.path_length.result - (a.at + 18) ≡ c.path_length.result = omega arith in
    rw (e, c.path_length.ensures.0)
