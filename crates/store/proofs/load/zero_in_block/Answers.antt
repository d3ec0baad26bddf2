use Rattle.layout.proofs.Laws.Bytes.{part-part}
use Rattle.layout.specs.Walks.Entries.{all_zero}
use native.Mathlib.Omega.{arith}
use Prim.Native.Nat.{◌+◌, ◌-◌, ◌*◌}
use mathlib.Core.Path.{◌≡◌, ap, ◌∙◌}
use Rattle.store.proofs.load.zero_in_block.Goals as goal

pub returns : goal.returns
returns c =
    let a = c.args in
    let e : a.o + a.m - a.o ≡ a.m = omega arith in
    c.all_zero.ensures ∙ ap all_zero (rw (c.block-block.ensures.bytes, e) (part-part a.image.now (512 * a.b) 512 a.o a.m c.requires.0 c.requires.1))
