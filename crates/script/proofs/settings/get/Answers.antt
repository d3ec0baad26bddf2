use Prim.Native.Nat.{◌-◌}
use mathlib.Core.Path.{◌≡◌, ◌∙◌}
use native.Mathlib.Omega.{arith}
use lib.ListN.{length}
use Rattle.script.proofs.Walks.Encoding.{got-written}
use Rattle.script.proofs.settings.get.Goals as goal

pub returns : goal.returns
returns c =
    let a = c.args in
    let g = c.get_into-g in
    let l : length g.new.buffer ≡ length a.part.now - 16 = omega arith in
    c.put_numbers.ensures ∙ got-written a.part.now g.new.buffer _ _ _ _ _ g.ensures (omega (arith, l, c.requires)) l
