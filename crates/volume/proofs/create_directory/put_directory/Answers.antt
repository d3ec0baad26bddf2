use Prim.Native.Nat.{◌+◌, ◌*◌, ◌%◌}
use mathlib.Core.Path.{◌≡◌, ◌∙◌}
use native.Mathlib.Omega.{arith}
use Rattle.volume.proofs.create_directory.put_directory.Goals as goal

pub returns : goal.returns
returns c =
    let a = c.args in
    let z : 512 * a.first + 128 * (0 % 4) ≡ 512 * a.first = omega arith in
    c.end_block.ensures ∙ rw (c.put_slot.ensures, z)
