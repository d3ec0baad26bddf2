use native.Mathlib.Omega.{arith}
use Rattle.write_list.proofs.Laws.Items.{item}
use Rattle.write_list.specs.List.{data_at}
use mathlib.Core.Path.{◌≡◌}
use Prim.Native.Nat.{◌+◌, ◌-◌}
use Rattle.write_list.proofs.list.data_of.Goals as goal

pub overflow_add-a : goal.overflow_add-a
overflow_add-a c =
    let i = item _ _ c.requires in
    omega (arith, i.ends, i.room)

pub path_length-requires : goal.path_length-requires
path_length-requires c =
    let i = item _ _ c.requires in
    omega (arith, i.ends, i.room)

pub overflow_add-a-2 : goal.overflow_add-a-2
overflow_add-a-2 c =
    let i = item _ _ c.requires in
    omega (arith, i.ends, i.room, c.path_length.ensures.0)

pub get32-requires : goal.get32-requires
get32-requires c =
    let i = item _ _ c.requires in
    omega (arith, i.ends, i.room)

pub overflow_add-e : goal.overflow_add-e
overflow_add-e c =
    let i = item _ _ c.requires in
    omega (arith, i.ends, i.room, c.get32.ensures)

pub slice_bounds-result-count : goal.slice_bounds-result-count
slice_bounds-result-count c =
    let i = item _ _ c.requires in
    omega (arith, i.ends, i.room, c.get32.ensures, c.path_length.ensures.0)

pub slice_bounds-result-start : goal.slice_bounds-result-start
slice_bounds-result-start c =
    let i = item _ _ c.requires in
    omega (arith, i.ends, i.room, c.get32.ensures, c.path_length.ensures.0)

pub slice_bounds-result-end : goal.slice_bounds-result-end
slice_bounds-result-end c =
    let i = item _ _ c.requires in
    omega (arith, i.ends, i.room, c.get32.ensures)

pub returns : goal.returns
unfolding data_at
returns c =
    let a = c.args in
    let get32 = c.get32 in
    let path-length = c.path_length in
    let e : a.at + get32.result - (a.at + 18 + path-length.result) ≡ get32.result - (18 + path-length.result) = omega arith in
    rw (e, get32.ensures, path-length.ensures.0)
