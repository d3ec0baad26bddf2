use mathlib.Core.Path.{◌≡◌}
use native.Mathlib.Omega.{arith}
use Prim.Native.Nat.{◌-◌}
use lib.ListN.{length}
use Rattle.script.proofs.Walks.Encoding.{entered-written}
use Rattle.script.proofs.overview.entry.Goals as goal

pub returns : goal.returns
returns c =
    let a = c.args in
    let i = c.entry_into-v in
    let l : length i.new.buffer ≡ length a.part.now - 64 = omega arith in
    entered-written a.part.now i.new.buffer _ _ i.result _ i.ensures (omega (arith, l, c.requires)) l c.put_entry.ensures
